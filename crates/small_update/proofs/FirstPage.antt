-- Page 1 after the update: what its numbers are, and that its cells stand as before.
use Rattle.std.proofs.Common.{◌≡◌, ℕ, ◌+◌, ◌-◌, ◌*◌, ◌^◌, ◌<◌, ◌≤◌, List, [], ◌∷◌, length, take, drop, get_or, sym, ap, ◌∙◌, subst, arith}
use Rattle.std.proofs.lemmas.List.{drop-drop, get_or-drop}
use Rattle.std.proofs.lemmas.Nat.{mod_below}
use Rattle.byteorder.specs.Endian.{big_number}
use Rattle.byte_fields.specs.Numbers.{number_at}
use Rattle.byte_fields.specs.Fields.{Field, AllFit, AllUpTo, number_of}
use Rattle.byte_fields.specs.FieldsLaws.{length-with_fields, number_at-with_fields, take-with_fields, drop-with_fields}
use Rattle.format_spec.specs.declared.PageKind.TheVariants.{TableLeaf}
use Rattle.format_spec.specs.Header.{change_counter, schema_cookie}
use Rattle.format_spec.specs.Page.{IsPage, AreApart, cell_place, cell_room}
use Rattle.small_spec.specs.Inserts.{new_first_page, raised}

-- the numbers that are written
abbrev pub counters : List ℕ → List Field
counters page =
    record { at = 92; size = 4; value = raised (change_counter page) } ∷ record { at = 40; size = 4; value = raised (schema_cookie page) }
    ∷ record { at = 24; size = 4; value = raised (change_counter page) } ∷ []

counters-inside : (page : List ℕ) → 96 ≤ length page → AllUpTo (length page) (counters page)
counters-inside page h = (omega arith, (omega arith, (omega arith, tt)))

counters-fit : (page : List ℕ) → AllFit (counters page)
counters-fit page =
    let counter : raised (change_counter page) < 2 ^ 32 = mod_below (change_counter page + 1) (2 ^ 32) (omega arith) in
    let cookie : raised (schema_cookie page) < 2 ^ 32 = mod_below (schema_cookie page + 1) (2 ^ 32) (omega arith) in
    (omega arith, (omega arith, (omega arith, tt)))

pub length-new_first_page : (page : List ℕ) → 96 ≤ length page → length (new_first_page page) ≡ length page
length-new_first_page page h = length-with_fields (counters page) page (counters-inside page h)

-- a number of the page
pub number_at-new_first_page : (k m : ℕ) (page : List ℕ) → 96 ≤ length page → number_at k m (new_first_page page) ≡ number_of k m (counters page) page
number_at-new_first_page k m page h = number_at-with_fields k m (counters page) page (counters-inside page h) (counters-fit page)

-- the bytes in front of the numbers, and those behind the database header
pub new_first_page-front : (page : List ℕ) → 96 ≤ length page → take 16 (new_first_page page) ≡ take 16 page
new_first_page-front page h = take-with_fields 16 (counters page) page (counters-inside page h) (omega arith, (omega arith, (omega arith, tt)))

pub new_first_page-back : (page : List ℕ) → 96 ≤ length page → drop 100 (new_first_page page) ≡ drop 100 page
new_first_page-back page h = drop-with_fields 100 (counters page) page (counters-inside page h) (omega arith, (omega arith, (omega arith, tt)))

-- ---- a page whose bytes behind the database header are as before

drop-behind : (n : ℕ) (xs ys : List ℕ) → 100 ≤ n → drop 100 xs ≡ drop 100 ys → drop n xs ≡ drop n ys
drop-behind n xs ys h e =
    let m : 100 + (n - 100) ≡ n = omega arith in
    let part = λ (zs : List ℕ). drop-drop (n - 100) 100 zs ∙ ap (λ (i : ℕ). drop i zs) m in
    sym (part xs) ∙ (ap (drop (n - 100)) e ∙ part ys)

pub page-same : (page now : List ℕ) (cells : List (List ℕ)) → drop 100 now ≡ drop 100 page → IsPage page 1 4096 TableLeaf cells 0 → IsPage now 1 4096 TableLeaf cells 0
page-same page now cells e p =
    let place = λ (k : ℕ). ap (big_number 2) (drop-behind (108 + 2 * k) now page (omega arith) e) in
    record {
      kind_is = sym (get_or-drop 100 now 0 0) ∙ (ap (λ (x : List ℕ). get_or x 0 0) e ∙ (get_or-drop 100 page 0 0 ∙ p.kind_is));
      count = ap (big_number 2) (drop-behind 103 now page (omega arith) e) ∙ p.count;
      each = λ k l.
          let at = p.each k l in
          let same = place k in
          record {
            view = at.view;
            is_cell = at.is_cell;
            stands =
                ap (λ (n : ℕ). take (length (get_or cells k [])) (drop n now)) same
                ∙ (ap (take (length (get_or cells k []))) (drop-behind (cell_place page 1 TableLeaf k) now page (omega (arith, at.behind_array)) e) ∙ at.stands);
            behind_array = omega (arith, same, at.behind_array);
            inside = omega (arith, same, at.inside);
          };
      apart = λ j k h l.
          subst (λ (n : ℕ). AreApart n (cell_room (get_or cells j [])) (cell_place now 1 TableLeaf k) (cell_room (get_or cells k []))) (sym (place j))
          (subst (λ (n : ℕ). AreApart (cell_place page 1 TableLeaf j) (cell_room (get_or cells j [])) n (cell_room (get_or cells k []))) (sym (place k)) (p.apart j k h l));
      right_child = p.right_child;
    }
