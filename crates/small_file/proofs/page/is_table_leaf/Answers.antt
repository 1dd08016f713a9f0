use Rattle.format_spec.specs.declared.PageKind.TheVariants.{TableLeaf}
use Rattle.small_file.proofs.page.is_table_leaf.Goals as goal

pub returns-in_default-2 : goal.returns-in_default-2
returns-in_default-2 c = (λ t. absurd (cc), λ h. absurd ((rw c.in_default.is at c.page_kind.ensures.none) TableLeaf h))
