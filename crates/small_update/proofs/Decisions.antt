-- What is decided of prepared rows in the order of their keys holds of them in any order.
use Rattle.std.proofs.Common.{Bool, true, false, IsTrue, ◌↔◌, ◌≡◌, ℕ, ◌+◌, ◌-◌, ◌<◌, ◌≤◌, List, [], ◌∷◌, length, map, get_or, refl, sym, ap, ◌∙◌, subst, arith, inl, inr}
use Rattle.std.specs.List.{Contains}
use Rattle.std.specs.List.Sorted.{IsPermutation, IsSortedByKey}
use Rattle.std.specs.Ordering.{int_cmp}
use Rattle.std.proofs.lemmas.Bool.{cases_lt, false≢true}
use Rattle.std.proofs.lemmas.List.{append-nil, length-append, length-map, get_or_append_left, get_or-append_right, get_or-map, get_or_default}
use Rattle.std.proofs.lemmas.List.Sorted.{IsPermutation-sym, IsPermutation-trans, IsPermutation-map, IsPermutation-append_right, Contains-permutation, sum_by-IsPermutation}
use Rattle.small_spec.specs.declared.TargetRow.{TargetRow}
use Rattle.small_spec.specs.declared.PreparedRow.{PreparedRow}
use Rattle.small_spec.specs.SmallFile.{IsRisingBy}
use Rattle.small_spec.specs.Inserts.{HasDistinctKeys, NonePresent, IsPresent, IsFirstPresent, IsMerged, inserted, all_rows, page_room}
use Rattle.small_update.proofs.Keys.{Shares, Shares-permutation, unshared-from_distinct, distinct-permutation, rising-not_shared, sorted-rising}

pub all_rows-permutation : (old : List TargetRow) (xs ys : List PreparedRow) → IsPermutation xs ys → IsPermutation (all_rows old xs) (all_rows old ys)
all_rows-permutation old xs ys moves = IsPermutation-append_right old _ _ (IsPermutation-map inserted xs ys moves)

pub page_room-permutation : (xs ys : List TargetRow) → IsPermutation xs ys → page_room ys ≡ page_room xs
page_room-permutation xs ys moves = ap (λ (n : ℕ). 8 + n) (sum_by-IsPermutation (λ (row : TargetRow). length row.cell + 2) xs ys moves)

pub IsFirstPresent-permutation : (old : List TargetRow) (xs ys : List PreparedRow) (row : PreparedRow) → IsPermutation xs ys → IsFirstPresent old ys row → IsFirstPresent old xs row
IsFirstPresent-permutation old xs ys row moves first = record {
  among = Contains-permutation ys xs row (IsPermutation-sym xs ys moves) first.among;
  present = first.present;
  least = λ other at present. first.least other (Contains-permutation xs ys other moves at) present;
}

pub NonePresent-permutation : (old : List TargetRow) (xs ys : List PreparedRow) → IsPermutation xs ys → NonePresent old ys → NonePresent old xs
NonePresent-permutation old xs ys moves none row at = none row (Contains-permutation xs ys row moves at)

-- a row behind the old ones is an inserted one
inserted-below : (old : List TargetRow) (prepared : List PreparedRow) (i : ℕ) → length old ≤ i → i < length (all_rows old prepared) → i - length old < length prepared
inserted-below old prepared i h l = omega (arith, length-append old (map inserted prepared), length-map prepared inserted)

inserted-at : (old : List TargetRow) (prepared : List PreparedRow) (i : ℕ) (d : PreparedRow) → length old ≤ i → i < length (all_rows old prepared)
    → (get_or (all_rows old prepared) i (inserted d)).rowid ≡ (get_or prepared (i - length old) d).key
inserted-at old prepared i d h l =
    ap (λ (row : TargetRow). row.rowid) (get_or-append_right old (map inserted prepared) (length old) i (inserted d) refl h
    ∙ get_or-map inserted prepared (i - length old) d (inserted d) (inserted-below old prepared i h l))

-- no two of all rows have one rowid
all_rows-apart : (old : List TargetRow) (prepared : List PreparedRow) → IsRisingBy (λ row. row.rowid) old → ¬ Shares (λ (row : PreparedRow). row.key) prepared → NonePresent old prepared
    → ¬ Shares (λ (row : TargetRow). row.rowid) (all_rows old prepared)
all_rows-apart old [] rising apart none h =
    let rowid = λ (row : TargetRow). row.rowid in
    absurd (rising-not_shared rowid old rising (subst (λ (rows : List TargetRow). Shares rowid rows) (append-nil old) h))
all_rows-apart old (first ∷ others) rising apart none h =
    let prepared = first ∷ others in
    let rowid = λ (row : TargetRow). row.rowid in
    let d = inserted first in
    elim (cases_lt h.1 (length old)) [
      | inl below ↦ absurd (rising-not_shared rowid old rising (
        h.0,
        h.1,
        h.2,
        below,
        λ e.
            ap rowid (sym (get_or_append_left old (map inserted prepared) e h.0 (omega (arith, h.2)))) ∙ (h.4 e ∙ ap rowid (get_or_append_left old (map inserted prepared) e h.1 below)),
      ))
      | inr above ↦ elim (cases_lt h.0 (length old)) [
        | inl below ↦
            let k = h.1 - length old in
            let row = get_or prepared k first in
            let in' : k < length prepared = inserted-below old prepared h.1 above h.3 in
            let among : Contains prepared row = (k, in', get_or_default prepared k row first in') in
            let same : (get_or old h.0 d).rowid ≡ row.key = ap rowid (sym (get_or_append_left old (map inserted prepared) d h.0 below)) ∙ (h.4 d ∙ inserted-at old prepared h.1 first above h.3) in
            let present : IsPresent old row = (h.0, omega (arith, length-map old rowid), get_or-map rowid old h.0 d row.key below ∙ same) in
            absurd (none row among present)
        | inr both ↦ absurd (apart (
          h.0 - length old,
          h.1 - length old,
          omega (arith, h.2),
          inserted-below old prepared h.1 above h.3,
          λ e.
              sym (inserted-at old prepared h.0 e both (omega (arith, h.2, h.3))) ∙ (h.4 (inserted e) ∙ inserted-at old prepared h.1 e above h.3),
        ))
      ]
    ]

-- the rows in order are the merged ones
pub rows-merged : (old rows : List TargetRow) (prepared sorted : List PreparedRow) → IsRisingBy (λ row. row.rowid) old → IsPermutation prepared sorted → HasDistinctKeys sorted → NonePresent old sorted
    → IsPermutation (all_rows old sorted) rows → IsSortedByKey (λ row. row.rowid) int_cmp rows → IsMerged old prepared rows
rows-merged old rows prepared sorted rising moves apart none same up = record {
  same_rows = IsPermutation-trans _ _ _ (all_rows-permutation old prepared sorted moves) same;
  rising = sorted-rising (λ (row : TargetRow). row.rowid) rows up (λ h. all_rows-apart old sorted rising (unshared-from_distinct (λ (row : PreparedRow). row.key) sorted apart) none (Shares-permutation (λ (row : TargetRow). row.rowid) rows (all_rows old sorted) (IsPermutation-sym _ _ same) h));
}

-- what `has_distinct_keys` says where the keys differ
pub keys-distinct : (prepared sorted rows : List PreparedRow) (b : Bool) → IsPermutation prepared sorted → (IsTrue b ↔ HasDistinctKeys rows) → rows ≡ sorted → b ≡ true → HasDistinctKeys sorted × HasDistinctKeys prepared
keys-distinct prepared sorted rows b moves says is differ =
    let keys : HasDistinctKeys sorted = subst (λ (x : List PreparedRow). HasDistinctKeys x) is (says.0 differ) in
    (keys, distinct-permutation (λ (row : PreparedRow). row.key) sorted prepared (IsPermutation-sym prepared sorted moves) keys)

-- and where they do not
pub keys-shared : (prepared sorted rows : List PreparedRow) (b : Bool) → IsPermutation prepared sorted → (IsTrue b ↔ HasDistinctKeys rows) → rows ≡ sorted → b ≡ false → ¬ HasDistinctKeys prepared
keys-shared prepared sorted rows b moves says is same keys =
    false≢true (sym same ∙ says.1 (subst (λ (x : List PreparedRow). HasDistinctKeys x) (sym is) (distinct-permutation (λ (row : PreparedRow). row.key) prepared sorted moves keys)))

-- all rows take the same room in any order
pub page_room-same : (old : List TargetRow) (prepared sorted : List PreparedRow) → IsPermutation prepared sorted → page_room (all_rows old sorted) ≡ page_room (all_rows old prepared)
page_room-same old prepared sorted moves = page_room-permutation (all_rows old prepared) (all_rows old sorted) (all_rows-permutation old prepared sorted moves)

-- a test of a bound that is not met
pub bound-not_met : (b : Bool) (n most : ℕ) → (IsTrue b ↔ (n ≤ most)) → b ≡ false → most < n
bound-not_met b n most says fails = elim (cases_lt most n) [
  | inl over ↦ over
  | inr within ↦ absurd (false≢true (sym fails ∙ says.1 within))
]
