-- The indexes of each table, by its place.
use Rattle.std.proofs.Common.{ℕ, List, [], ◌∷◌, ◌++◌, slice_index_or, Result, refl, sym, ap, ◌∙◌, arith, append_assoc, append-nil}
use Rattle.schema_spec.specs.declared.schema.SqlFault.{SqlFault}
use Rattle.schema_spec.specs.declared.schema.Index.{Index}
use Rattle.schema_read.specs.Entries.{StandAll, index_at, indexes_at}
use Rattle.schema_read.specs.declared.check.Placed.{Placed}
use Rattle.schema_read.specs.declared.found.Found.{Found}

-- each index stands with its table, one after the other
pub stand-next : (old between new : List Found) (placed : Placed) (more : List Placed) → StandAll old (placed ∷ []) between → StandAll between more new → StandAll old (placed ∷ more) new
stand-next old between new placed more first later = record {
  many = later.many ∙ first.many;
  each = λ k d low.
      let a = first.each k d low in
      let b = later.each k d (omega (arith, low, first.many)) in
      record {
        row = b.row ∙ a.row;
        meaning = b.meaning ∙ a.meaning;
        indexes = b.indexes ∙ ap (λ (l : List (ℕ × Result Index SqlFault)). l ++ indexes_at k more) a.indexes ∙ append_assoc (slice_index_or old k d).indexes.items (index_at k placed ++ []) (indexes_at k more)
            ∙ ap (λ (l : List (ℕ × Result Index SqlFault)). (slice_index_or old k d).indexes.items ++ (l ++ indexes_at k more)) (append-nil (index_at k placed));
      };
}

pub stand-none : (old : List Found) → StandAll old [] old
stand-none old = record { many = refl; each = λ k d low. record { row = refl; meaning = refl; indexes = sym (append-nil (slice_index_or old k d).indexes.items) } }
