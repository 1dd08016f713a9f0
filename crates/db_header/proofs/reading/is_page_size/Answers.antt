use Rattle.std.proofs.Common.{refl, arith}
use Rattle.db_header.proofs.PageSizes.{page_size-from_power, page_size-one_of_powers}
use Rattle.db_header.proofs.reading.is_page_size.Goals as goal

pub returns-in-512 : goal.returns-in-512
returns-in-512 c = (λ t. page_size-from_power c.args.size c.in-512.is, λ h. refl)

pub returns-in_default : goal.returns-in_default
returns-in_default c = (λ t. absurd (cc), λ h. let one = page_size-one_of_powers c.args.size h in absurd (grind (arith, one)))
