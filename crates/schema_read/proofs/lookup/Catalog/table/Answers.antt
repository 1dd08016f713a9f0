use Rattle.std.proofs.Common.{◌≡◌, List, Some, None, slice_get, sym, subst, ◌∙◌}
use Rattle.std.specs.Prelude.{option_copied, option_map}
use Rattle.database_spec.specs.declared.catalog.Catalog.{Catalog as Known}
use Rattle.database_spec.specs.declared.catalog.NamedEntry.{NamedEntry}
use Rattle.schema_read.specs.Lookups.{entry_named}
use Rattle.schema_read.proofs.Naming.{entry-look}
use Rattle.schema_read.proofs.lookup.Catalog.table.Goals as goal

pub returns-in-Some : goal.returns-in-Some
returns-in-Some c =
    let name = c.args.name.now in
    let tables = c.self.inside.known.tables in
    let read = subst (λ (l : List NamedEntry). option_copied c.entry_at.result ≡ option_map (λ (n : NamedEntry). n.entry) (slice_get l c.in-Some.at)) c.as_slice.ensures c.entry_at.ensures in
    subst (λ (k : Known). option_copied c.entry_at.result ≡ entry_named name k.tables) c.self.view_is
    (read ∙ sym (entry-look name tables (Some c.in-Some.at) (sym (c.self.invariant name) ∙ sym c.first_place.ensures ∙ c.in-Some.is)))

pub returns-in-None : goal.returns-in-None
returns-in-None c =
    let name = c.args.name.now in
    let tables = c.self.inside.known.tables in
    subst (λ (k : Known). None ≡ entry_named name k.tables) c.self.view_is (sym (entry-look name tables None (sym (c.self.invariant name) ∙ sym c.first_place.ensures ∙ c.in-None.is)))
