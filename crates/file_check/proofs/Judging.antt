-- What is told of indexes, one behind the other.
use Rattle.std.proofs.Common.{◌≡◌, ℤ, List, [], ◌∷◌, ◌++◌, Option, Some, None, Ok, refl, ap, ap₂, ◌∙◌, subst, inl}
use Rattle.std.proofs.Math.Path.{subst⁻¹}
use Rattle.std.specs.List.{flat_map}
use Rattle.std.specs.Option.{option_or}
use Rattle.std.proofs.lemmas.Grind.{flat_map-append}
use Rattle.schema_spec.specs.declared.schema.Index.{Index}
use Rattle.tree_spec.specs.Standing.{Sizes, Paged}
use Rattle.tree_spec.specs.Trees.{Member}
use Rattle.tree_spec.specs.WorldsLaws.{all-front, all-back}
use Rattle.database_spec.specs.declared.catalog.Entry.{Entry}
use Rattle.database_spec.specs.declared.fault.FileFault.TheVariants.{IndexDisagrees}
use Rattle.database_spec.specs.Rows.{TableRow}
use Rattle.database_spec.specs.Walks.{members_found}
use Rattle.database_spec.specs.FileFindings.{Content, Rows, Entries, Anything, Walked, Found, IsIndexContent, content_compared, compared}
use Rattle.database_spec.specs.FileFaults.{FirstWrong}
use Rattle.prepared_laws.specs.TablesMadeLaws.{Apart}
use Rattle.database_laws.specs.RightFindings.{AreRight}
use Rattle.database_laws.specs.RightFindingsLaws.{right-join, wrong-front, wrong-back}
use Rattle.db_check.specs.Indexes.{TellsIndex}
use Rattle.file_check.specs.declared.trees.Disagreement.{Disagreement}
use Rattle.file_check.specs.Parts.{HasApart, AreApart, Judges}

-- of no tree nothing is told
pub judges-none : Judges [] None
judges-none = λ apart before. tt

-- a tree that is compared with none
pub judges-alone : (walked : Walked) → walked.subject.content ≡ Rows → Judges (walked ∷ []) None
judges-alone walked e = λ apart before. subst⁻¹ (λ (c : Content). AreRight before (content_compared c (members_found walked.findings) ++ [])) e tt

pub judges-any : (walked : Walked) → walked.subject.content ≡ Anything → Judges (walked ∷ []) None
judges-any walked e = λ apart before. subst⁻¹ (λ (c : Content). AreRight before (content_compared c (members_found walked.findings) ++ [])) e tt

-- one more
pub judges-more : (gone : List Walked) (one : Walked) (told own : Option Disagreement) → Judges gone told → Judges (one ∷ []) own → Judges (gone ++ one ∷ []) (option_or told own)
judges-more gone one told own first second = by told own first second
  where
    front : AreApart (gone ++ one ∷ []) → AreApart gone
    front apart = all-front (λ (w : Walked). HasApart w.subject.content) gone (one ∷ []) apart

    back : AreApart (gone ++ one ∷ []) → AreApart (one ∷ [])
    back apart = all-back (λ (w : Walked). HasApart w.subject.content) gone (one ∷ []) apart

    whole : flat_map compared (gone ++ one ∷ []) ≡ flat_map compared gone ++ flat_map compared (one ∷ [])
    whole = flat_map-append compared gone (one ∷ [])

    by : (told own : Option Disagreement) → Judges gone told → Judges (one ∷ []) own → Judges (gone ++ one ∷ []) (option_or told own)
    by (Some t) own p q = λ apart before.
        subst⁻¹ (λ (found : List Found). FirstWrong before found (IndexDisagrees t.index.now.name t.rowid)) whole
        (wrong-front before (flat_map compared gone) (flat_map compared (one ∷ [])) (IndexDisagrees t.index.now.name t.rowid) (p (front apart) before))
    by None (Some t) p q = λ apart before.
        subst⁻¹ (λ (found : List Found). FirstWrong before found (IndexDisagrees t.index.now.name t.rowid)) whole
        (wrong-back before (flat_map compared gone) (flat_map compared (one ∷ [])) (IndexDisagrees t.index.now.name t.rowid) (p (front apart) before) (q (back apart) (before ++ flat_map compared gone)))
    by None None p q = λ apart before.
        subst⁻¹ (λ (found : List Found). AreRight before found) whole
        (right-join before (flat_map compared gone) (flat_map compared (one ∷ [])) (p (front apart) before) (q (back apart) (before ++ flat_map compared gone)))

-- a tree that was compared with a table
module _ (walked : Walked) where
  abbrev members : List Member
  members = members_found walked.findings

  apart-rows : (index : Index) (rows : List TableRow) → walked.subject.content ≡ Entries index rows → AreApart (walked ∷ []) → Apart rows
  apart-rows index rows e apart = subst HasApart e apart.0

  pub judges-right : TellsIndex walked.subject.content members None → Judges (walked ∷ []) None
  judges-right tells = by walked.subject.content refl tells
    where
      by : (content : Content) → walked.subject.content ≡ content → TellsIndex content members None → Judges (walked ∷ []) None
      by Rows e is = absurd is
      by (Entries index rows) e is = λ apart before. subst⁻¹ (λ (c : Content). AreRight before (content_compared c members ++ [])) e (is (apart-rows index rows e apart), tt)
      by Anything e is = judges-any walked e

  pub judges-wrong : (sizes : Sizes) (base : Paged) (entry : Entry) (read : Index) (rowid : ℤ) (told : Disagreement) → IsIndexContent sizes base entry (Ok read) walked.subject.content → TellsIndex walked.subject.content members (Some rowid)
      → told.index.now ≡ read → told.rowid ≡ rowid → Judges (walked ∷ []) (Some told)
  judges-wrong sizes base entry read rowid told is tells index_is rowid_is = by walked.subject.content refl is tells
    where
      by : (content : Content) → walked.subject.content ≡ content → IsIndexContent sizes base entry (Ok read) content → TellsIndex content members (Some rowid) → Judges (walked ∷ []) (Some told)
      by Rows e of has = absurd of
      by (Entries index rows) e of has = λ apart before.
          let one : read ≡ index = (let both = of.0 in cc) in
          let fault : IndexDisagrees told.index.now.name told.rowid ≡ IndexDisagrees index.name rowid = ap₂ IndexDisagrees (ap (λ (i : Index). i.name) (index_is ∙ one)) rowid_is in
          subst⁻¹ (λ (c : Content). FirstWrong before (content_compared c members ++ []) (IndexDisagrees told.index.now.name told.rowid)) e
          (inl (rowid, has (apart-rows index rows e apart), fault))
      by Anything e of has = absurd (let no : ⊥ = cc in no)
