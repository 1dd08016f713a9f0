-- Tests of tokens look at their kind and bytes alone.
use Rattle.std.proofs.Common.{◌≡◌, ℕ, ◌+◌, ◌-◌, ◌%◌, ◌==◌, ◌&&◌, ◌||◌, Bool, true, false, List, [], ◌∷◌, length, refl, sym, ap, ◌∙◌}
use Rattle.std.proofs.Math.Bool.{or-false, or-true}
use Rattle.std.proofs.lemmas.Bool.{eqb-true}
use Rattle.std.proofs.lemmas.Slice.Eq.{bytes_eq-Decides}
use Rattle.std.specs.Str.{bytes_eq, str_to_ascii_lowercase}
use Rattle.std.specs.Prelude.{IsTrue, not, if◌then◌else◌, slice_index, codes}
use Rattle.std.specs.List.{list_all, list_any}
use Rattle.std.specs.Char.{is_ascii_hexdigit}
use Rattle.schema_spec.specs.declared.token.TokenKind.{TokenKind}
use Rattle.schema_spec.specs.declared.token.TokenKind.TheVariants.{Word, Number, Quoted, Bracketed, Unclosed, Sign}
use Rattle.schema_spec.specs.declared.token.Token.{Token}
use Rattle.schema_spec.specs.Words.{reserved_words, constraint_words, is_one_of, spelling, inner, is_word_of, is_keyword, is_sign, is_name, is_number, is_number_token, is_sql, is_hex_content, is_blob, is_type_word, is_literal, same_name}
use Rattle.schema_spec.specs.Brackets.{ends_part, open_behind}
use Rattle.grammar_laws.specs.Lexemes.{is_whole}

-- a token of one text is spelled as one of another
pub record Alike (text : List ℕ) (token : Token) (other : List ℕ) (same : Token) : Type 0 where
  pub kind : token.kind ≡ same.kind
  pub spelled : spelling text token ≡ spelling other same
  pub first : slice_index text token.start ≡ slice_index other same.start
  pub within : inner text token ≡ inner other same

-- a test is the same of tokens that are spelled alike
abbrev pub Respects : {A : Type 0} → (List ℕ → Token → A) → Type 0
Respects t = (text other : List ℕ) (c d : Token) → Alike text c other d → t text c ≡ t other d

-- no token
abbrev pub none : List ℕ → Token → Bool
none text token = false

abbrev by_word : List (List ℕ) → TokenKind → List ℕ → Bool
by_word words kind bytes = elim kind as (λ _. Bool) [ Word ↦ is_one_of words bytes | _ ↦ false ]

abbrev by_sign : ℕ → TokenKind → ℕ → Bool
by_sign sign kind byte = elim kind as (λ _. Bool) [ Sign ↦ byte == sign | _ ↦ false ]

abbrev by_name : TokenKind → List ℕ → Bool
by_name kind bytes = elim kind as (λ _. Bool) [ Word ↦ not (is_one_of reserved_words bytes) | Quoted ↦ true | Bracketed ↦ true | _ ↦ false ]

abbrev by_number : TokenKind → List ℕ → Bool
by_number kind bytes = elim kind as (λ _. Bool) [ Number ↦ is_number bytes | _ ↦ false ]

abbrev by_sql : TokenKind → List ℕ → Bool
by_sql kind bytes = elim kind as (λ _. Bool) [ Unclosed ↦ false | Number ↦ is_number bytes | _ ↦ true ]

abbrev by_type : TokenKind → List ℕ → Bool
by_type kind bytes = elim kind as (λ _. Bool) [ Word ↦ not (is_one_of constraint_words bytes) | _ ↦ false ]

by_kind_and_bytes : {A : Type 0} (f : TokenKind → List ℕ → A) (text other : List ℕ) (c d : Token) → Alike text c other d → f c.kind (spelling text c) ≡ f d.kind (spelling other d)
by_kind_and_bytes f text other c d a = ap (λ k. f k (spelling text c)) a.kind ∙ ap (f d.kind) a.spelled

pub word-respects : (words : List (List ℕ)) → Respects (is_word_of words)
word-respects words text other c d a = by_kind_and_bytes (by_word words) text other c d a

pub sign-respects : (sign : ℕ) → Respects (is_sign sign)
sign-respects sign text other c d a = ap (λ k. by_sign sign k (slice_index text c.start)) a.kind ∙ ap (by_sign sign d.kind) a.first

pub name-respects : Respects is_name
name-respects text other c d a = by_kind_and_bytes by_name text other c d a

pub number-respects : Respects is_number_token
number-respects text other c d a = by_kind_and_bytes by_number text other c d a

pub sql-respects : Respects is_sql
sql-respects text other c d a = by_kind_and_bytes by_sql text other c d a

pub type-respects : Respects is_type_word
type-respects text other c d a = by_kind_and_bytes by_type text other c d a

-- one of two tests
abbrev pub or_test : (List ℕ → Token → Bool) → (List ℕ → Token → Bool) → List ℕ → Token → Bool
or_test t u text token = t text token || u text token

pub or-respects : (t u : List ℕ → Token → Bool) → Respects t → Respects u → Respects (or_test t u)
or-respects t u p q text other c d a = ap (λ b. b || u text c) (p text other c d a) ∙ ap (λ b. t other d || b) (q text other c d a)

pub literal-respects : Respects is_literal
literal-respects text other c d a =
    ap (λ b. b || is_keyword (codes "NULL") text c || is_name text c) (number-respects text other c d a)
    ∙ ap (λ b. is_number_token other d || b || is_name text c) (word-respects (codes "NULL" ∷ []) text other c d a)
    ∙ ap (λ b. is_number_token other d || is_keyword (codes "NULL") other d || b) (name-respects text other c d a)

pub ends-respects : Respects ends_part
ends-respects text other c d a = or-respects (is_sign 44) (is_sign 41) (sign-respects 44) (sign-respects 41) text other c d a

abbrev by_hex : TokenKind → List ℕ → Bool
by_hex kind bytes = elim kind as (λ _. Bool) [ Quoted ↦ list_all is_ascii_hexdigit bytes && (length bytes % 2 == 0) | _ ↦ false ]

pub open-respects : (depth : ℕ) → Respects (λ text token. open_behind text depth token)
open-respects depth text other c d a =
    ap (λ b. if b then depth + 1 else (if is_sign 41 text c then depth - 1 else depth)) (sign-respects 40 text other c d a)
    ∙ ap (λ b. if is_sign 40 other d then depth + 1 else (if b then depth - 1 else depth)) (sign-respects 41 text other c d a)

-- two tokens are a blob in both texts or in none
pub blob-respects : (text other : List ℕ) (x c : Token) → Alike text x other x → Alike text c other c → is_blob text x c ≡ is_blob other x c
blob-respects text other x c a b =
    ap (λ t. t && (c.start == x.end) && (slice_index text c.start == 39) && by_hex c.kind (inner text c)) (word-respects (codes "X" ∷ []) text other x x a)
    ∙ ap (λ n. is_keyword (codes "X") other x && (c.start == x.end) && (n == 39) && by_hex c.kind (inner text c)) b.first
    ∙ ap (λ i. is_keyword (codes "X") other x && (c.start == x.end) && (slice_index other c.start == 39) && by_hex c.kind i) b.within

-- a test of words
pub words-more : (w : List ℕ) (ws : List (List ℕ)) (text : List ℕ) (c : Token) → is_keyword w text c ≡ false → is_word_of ws text c ≡ false → is_word_of (w ∷ ws) text c ≡ false
words-more w ws text c p q = more c.kind p q
  where
    more : (kind : TokenKind) → by_word (w ∷ []) kind (spelling text c) ≡ false → by_word ws kind (spelling text c) ≡ false → by_word (w ∷ ws) kind (spelling text c) ≡ false
    more Word p q = ap (λ b. b || is_one_of ws (spelling text c)) (sym (or-false (same_name (spelling text c) w)) ∙ p) ∙ q
    more kind p q = refl

pub words-first : (w : List ℕ) (ws : List (List ℕ)) (text : List ℕ) (c : Token) → is_word_of (w ∷ ws) text c ≡ false → is_keyword w text c ≡ false
words-first w ws text c p = one c.kind p
  where
    left : (a b : Bool) → (a || b) ≡ false → (a || false) ≡ false
    left true b h = absurd (cc)
    left false b h = refl

    one : (kind : TokenKind) → by_word (w ∷ ws) kind (spelling text c) ≡ false → by_word (w ∷ []) kind (spelling text c) ≡ false
    one Word p = left (same_name (spelling text c) w) (is_one_of ws (spelling text c)) p
    one kind p = refl

pub words-others : (w : List ℕ) (ws : List (List ℕ)) (text : List ℕ) (c : Token) → is_word_of (w ∷ ws) text c ≡ false → is_word_of ws text c ≡ false
words-others w ws text c p = others c.kind p
  where
    right : (a b : Bool) → (a || b) ≡ false → b ≡ false
    right true b h = absurd (cc)
    right false b h = h

    others : (kind : TokenKind) → by_word (w ∷ ws) kind (spelling text c) ≡ false → by_word ws kind (spelling text c) ≡ false
    others Word p = right (same_name (spelling text c) w) (is_one_of ws (spelling text c)) p
    others kind p = refl

-- a word, or what is quoted
abbrev pub is_wordy : TokenKind → Bool
is_wordy Word = true
is_wordy Quoted = true
is_wordy Bracketed = true
is_wordy _ = false

pub word-wordy : (words : List (List ℕ)) (text : List ℕ) (c : Token) → is_word_of words text c ≡ true → IsTrue (is_wordy c.kind)
word-wordy words text c p = wordy c.kind p
  where
    wordy : (kind : TokenKind) → by_word words kind (spelling text c) ≡ true → IsTrue (is_wordy kind)
    wordy Word p = refl
    wordy Quoted p = refl
    wordy Bracketed p = refl
    wordy _ p = absurd (cc)

pub name-wordy : (text : List ℕ) (c : Token) → is_name text c ≡ true → IsTrue (is_wordy c.kind)
name-wordy text c p = wordy c.kind p
  where
    wordy : (kind : TokenKind) → by_name kind (spelling text c) ≡ true → IsTrue (is_wordy kind)
    wordy Word p = refl
    wordy Quoted p = refl
    wordy Bracketed p = refl
    wordy _ p = absurd (cc)

-- a word or what is quoted is whole, and so is each token that the grammar takes
pub wordy-whole : (kind : TokenKind) → IsTrue (is_wordy kind) → IsTrue (is_whole kind)
wordy-whole Word h = refl
wordy-whole Quoted h = refl
wordy-whole Bracketed h = refl
wordy-whole Unclosed h = absurd (cc)
wordy-whole _ h = refl

-- a test by the kind that no open quote passes
whole-by : (f : TokenKind → Bool) → f Unclosed ≡ false → (kind : TokenKind) → f kind ≡ true → IsTrue (is_whole kind)
whole-by f e Unclosed p = let wrong = sym p ∙ e in absurd (cc)
whole-by f e _ p = refl

pub sign-whole : (sign : ℕ) (text : List ℕ) (c : Token) → is_sign sign text c ≡ true → IsTrue (is_whole c.kind)
sign-whole sign text c p = whole-by (λ kind. by_sign sign kind (slice_index text c.start)) refl c.kind p

pub number-whole : (text : List ℕ) (c : Token) → is_number_token text c ≡ true → IsTrue (is_whole c.kind)
number-whole text c p = whole-by (λ kind. by_number kind (spelling text c)) refl c.kind p

pub sql-whole : (text : List ℕ) (c : Token) → is_sql text c ≡ true → IsTrue (is_whole c.kind)
sql-whole text c p = whole-by (λ kind. by_sql kind (spelling text c)) refl c.kind p

pub type-whole : (text : List ℕ) (c : Token) → is_type_word text c ≡ true → IsTrue (is_whole c.kind)
type-whole text c p = whole-by (λ kind. by_type kind (spelling text c)) refl c.kind p

pub literal-whole : (text : List ℕ) (c : Token) → is_literal text c ≡ true → IsTrue (is_whole c.kind)
literal-whole text c p = whole-by (λ kind. by_number kind (spelling text c) || by_word (codes "NULL" ∷ []) kind (spelling text c) || by_name kind (spelling text c)) refl c.kind p

pub hex-whole : (text : List ℕ) (c : Token) → is_hex_content text c ≡ true → IsTrue (is_whole c.kind)
hex-whole text c p = whole-by (λ kind. by_hex kind (inner text c)) refl c.kind p

-- what ends a part is no word, and what is no token of SQL neither
pub ends-not_wordy : (text : List ℕ) (c : Token) → ends_part text c ≡ true → is_wordy c.kind ≡ false
ends-not_wordy text c e = not_wordy c.kind e
  where
    not_wordy : (kind : TokenKind) → (by_sign 44 kind (slice_index text c.start) || by_sign 41 kind (slice_index text c.start)) ≡ true → is_wordy kind ≡ false
    not_wordy Word p = absurd (cc)
    not_wordy Quoted p = absurd (cc)
    not_wordy Bracketed p = absurd (cc)
    not_wordy _ p = refl

pub not_sql-not_wordy : (text : List ℕ) (c : Token) → is_sql text c ≡ false → is_wordy c.kind ≡ false
not_sql-not_wordy text c e = not_wordy c.kind e
  where
    not_wordy : (kind : TokenKind) → by_sql kind (spelling text c) ≡ false → is_wordy kind ≡ false
    not_wordy Word p = absurd (cc)
    not_wordy Quoted p = absurd (cc)
    not_wordy Bracketed p = absurd (cc)
    not_wordy _ p = refl

-- a word that is X is a literal
same-any : (bytes other : List ℕ) (words : List (List ℕ)) → same_name bytes other ≡ true → is_one_of words bytes ≡ is_one_of words other
same-any bytes other words e =
    ap (λ lower. list_any (λ word. bytes_eq lower (str_to_ascii_lowercase word)) words) ((bytes_eq-Decides (str_to_ascii_lowercase bytes) (str_to_ascii_lowercase other)).0 e)

pub x-literal : (text : List ℕ) (c : Token) → is_keyword (codes "X") text c ≡ true → is_literal text c ≡ true
x-literal text c e = literal c.kind e
  where
    literal : (kind : TokenKind) → by_word (codes "X" ∷ []) kind (spelling text c) ≡ true
        → (by_number kind (spelling text c) || by_word (codes "NULL" ∷ []) kind (spelling text c) || by_name kind (spelling text c)) ≡ true
    literal Word p =
        let same : same_name (spelling text c) (codes "X") ≡ true = sym (or-false (same_name (spelling text c) (codes "X"))) ∙ p in
        let free : not (is_one_of reserved_words (spelling text c)) ≡ true = ap not (same-any (spelling text c) (codes "X") reserved_words same) in
        ap (λ b. by_word (codes "NULL" ∷ []) Word (spelling text c) || b) free ∙ or-true (by_word (codes "NULL" ∷ []) Word (spelling text c))
    literal _ p = absurd (cc)

-- a sign is no word and no other sign
at-sign : (sign byte : ℕ) (f : TokenKind → Bool) → f Sign ≡ false → (kind : TokenKind) → by_sign sign kind byte ≡ true → f kind ≡ false
at-sign sign byte f e Sign p = e
at-sign sign byte f e _ p = absurd (cc)

pub sign-not_word : (sign : ℕ) (words : List (List ℕ)) (text : List ℕ) (c : Token) → is_sign sign text c ≡ true → is_word_of words text c ≡ false
sign-not_word sign words text c p = at-sign sign (slice_index text c.start) (λ kind. by_word words kind (spelling text c)) refl c.kind p

pub sign-not_type : (sign : ℕ) (text : List ℕ) (c : Token) → is_sign sign text c ≡ true → is_type_word text c ≡ false
sign-not_type sign text c p = at-sign sign (slice_index text c.start) (λ kind. by_type kind (spelling text c)) refl c.kind p

pub sign-not_name : (sign : ℕ) (text : List ℕ) (c : Token) → is_sign sign text c ≡ true → is_name text c ≡ false
sign-not_name sign text c p = at-sign sign (slice_index text c.start) (λ kind. by_name kind (spelling text c)) refl c.kind p

pub sign-not_hex : (sign : ℕ) (text : List ℕ) (c : Token) → is_sign sign text c ≡ true → is_hex_content text c ≡ false
sign-not_hex sign text c p = at-sign sign (slice_index text c.start) (λ kind. by_hex kind (inner text c)) refl c.kind p

pub sign-other : (sign another : ℕ) → (sign == another) ≡ false → (text : List ℕ) (c : Token) → is_sign sign text c ≡ true → is_sign another text c ≡ false
sign-other sign another differ text c p = other c.kind p
  where
    other : (kind : TokenKind) → by_sign sign kind (slice_index text c.start) ≡ true → by_sign another kind (slice_index text c.start) ≡ false
    other Sign p = ap (λ n. n == another) (eqb-true (slice_index text c.start) sign p) ∙ differ
    other _ p = absurd (cc)

-- a token that is one word is among other words where this one is
pub keyword-words : (w : List ℕ) (words : List (List ℕ)) (text : List ℕ) (c : Token) → is_keyword w text c ≡ true → is_word_of words text c ≡ is_one_of words w
keyword-words w words text c p = same c.kind p
  where
    same : (kind : TokenKind) → by_word (w ∷ []) kind (spelling text c) ≡ true → by_word words kind (spelling text c) ≡ is_one_of words w
    same Word p = same-any (spelling text c) w words (sym (or-false (same_name (spelling text c) w)) ∙ p)
    same _ p = absurd (cc)

pub keyword-type : (w : List ℕ) (text : List ℕ) (c : Token) → is_keyword w text c ≡ true → is_type_word text c ≡ not (is_one_of constraint_words w)
keyword-type w text c p = same c.kind p
  where
    same : (kind : TokenKind) → by_word (w ∷ []) kind (spelling text c) ≡ true → by_type kind (spelling text c) ≡ not (is_one_of constraint_words w)
    same Word p = ap not (same-any (spelling text c) w constraint_words (sym (or-false (same_name (spelling text c) w)) ∙ p))
    same _ p = absurd (cc)

at-word : (w bytes : List ℕ) (f : TokenKind → Bool) → f Word ≡ false → (kind : TokenKind) → by_word (w ∷ []) kind bytes ≡ true → f kind ≡ false
at-word w bytes f e Word p = e
at-word w bytes f e _ p = absurd (cc)

pub keyword-not_sign : (w : List ℕ) (sign : ℕ) (text : List ℕ) (c : Token) → is_keyword w text c ≡ true → is_sign sign text c ≡ false
keyword-not_sign w sign text c p = at-word w (spelling text c) (λ kind. by_sign sign kind (slice_index text c.start)) refl c.kind p

pub keyword-not_hex : (w : List ℕ) (text : List ℕ) (c : Token) → is_keyword w text c ≡ true → is_hex_content text c ≡ false
keyword-not_hex w text c p = at-word w (spelling text c) (λ kind. by_hex kind (inner text c)) refl c.kind p

-- what ends a part is no name, and a word or what is quoted ends none, is of SQL, and opens and closes no bracket
pub ends-not_name : (text : List ℕ) (c : Token) → ends_part text c ≡ true → is_name text c ≡ false
ends-not_name text c e = by_comma (is_sign 44 text c) refl
  where
    by_comma : (b : Bool) → is_sign 44 text c ≡ b → is_name text c ≡ false
    by_comma true f = sign-not_name 44 text c f
    by_comma false f = sign-not_name 41 text c (sym (ap (λ b. b || is_sign 41 text c) f) ∙ e)

wordy-not_sign : (sign : ℕ) (text : List ℕ) (c : Token) → IsTrue (is_wordy c.kind) → is_sign sign text c ≡ false
wordy-not_sign sign text c p = not_sign c.kind p
  where
    not_sign : (kind : TokenKind) → is_wordy kind ≡ true → by_sign sign kind (slice_index text c.start) ≡ false
    not_sign Sign p = absurd (cc)
    not_sign _ p = refl

pub wordy-not_end : (text : List ℕ) (c : Token) → IsTrue (is_wordy c.kind) → ends_part text c ≡ false
wordy-not_end text c p = ap (λ b. b || is_sign 41 text c) (wordy-not_sign 44 text c p) ∙ wordy-not_sign 41 text c p

pub wordy-sql : (text : List ℕ) (c : Token) → IsTrue (is_wordy c.kind) → is_sql text c ≡ true
wordy-sql text c p = sql c.kind p
  where
    sql : (kind : TokenKind) → is_wordy kind ≡ true → by_sql kind (spelling text c) ≡ true
    sql Word p = refl
    sql Quoted p = refl
    sql Bracketed p = refl
    sql _ p = absurd (cc)

pub wordy-open : (text : List ℕ) (depth : ℕ) (c : Token) → IsTrue (is_wordy c.kind) → open_behind text depth c ≡ depth
wordy-open text depth c p =
    ap (λ b. if b then depth + 1 else (if is_sign 41 text c then depth - 1 else depth)) (wordy-not_sign 40 text c p)
    ∙ ap (λ b. if b then depth - 1 else depth) (wordy-not_sign 41 text c p)
