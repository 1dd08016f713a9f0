use Rattle.std.proofs.Common.{ℕ, ℤ, ◌<◌, List, arith, length, subst, inl}
use Rattle.std.proofs.lemmas.Int.{to_z-of_z}
use Rattle.std.specs.Int.{w64}
use Rattle.format_spec.specs.Cell.{payload_limit}
use Rattle.tree_spec.specs.Worlds.{greatest_count}
use Rattle.tree_pages.specs.Writers.{paged, sizes_of}
use Rattle.tree_table.specs.Puts.{PutsRow}
use Rattle.row_values.specs.Values.{member_with}
use Rattle.row_writes.specs.declared.write.RowWrite.TheVariants.{Put}
use Rattle.pass_fault.specs.Faults.{RefusesLong, room_in}
use Rattle.imposter.proofs.Faults.{long-kind, long-written}
use Rattle.imposter.proofs.writing.put_record.Goals as goal

pub returns-then-payload-gt-MOST_BYTES-clause-refuses : goal.returns-then-payload-gt-MOST_BYTES-clause-refuses
returns-then-payload-gt-MOST_BYTES-clause-refuses g c = λ m front table behind trunks told world kind is.
    let S = g.S.PageRead in
    let a = c.args.store.now in
    let target = c.args.target.now in
    let fault = c.refuse_long.result in
    let back = to_z-of_z w64 c.args.rowid c.ranges.rowid in
    let long : payload_limit < length c.args.payload.now = omega arith in
    long-written (S.usable a) target c.args.rowid (Put c.args.payload.now) (room_in (paged S a m) trunks) (S.count a) fault (subst (λ (n : List ℕ). RefusesLong n c.args.rowid fault) c.as_slice.ensures (subst (λ (r : ℤ). RefusesLong c.as_slice.result.now r fault) back c.refuse_long.ensures.refuses)) long

pub returns-then-payload-gt-MOST_BYTES-clause-records : goal.returns-then-payload-gt-MOST_BYTES-clause-records
returns-then-payload-gt-MOST_BYTES-clause-records g c =
    let target = c.args.target.now in
    let fault = c.refuse_long.result in
    let back = to_z-of_z w64 c.args.rowid c.ranges.rowid in
    long-kind target c.args.rowid fault (subst (λ (n : List ℕ). RefusesLong n c.args.rowid fault) c.as_slice.ensures (subst (λ (r : ℤ). RefusesLong c.as_slice.result.now r fault) back c.refuse_long.ensures.refuses))

pub returns-in-Ok-clause-wrote : goal.returns-in-Ok-clause-wrote
returns-in-Ok-clause-wrote g c = λ old told.
    let S = g.S.PageRead in
    let a = c.args.store.now in
    let back = to_z-of_z w64 c.args.rowid c.ranges.rowid in
    let put = c.in-Ok.ensures in
    let r = put.put old told in (
      r.0,
      r.1,
      record {
        into = subst (λ (n : ℤ). PutsRow (sizes_of S a) c.args.target.now.root (member_with n c.args.payload.now) greatest_count (paged S a old) (paged S c.put.new.store r.0)) back r.2;
        fits = omega arith;
        grows = put.count;
        rises = put.rises;
      },
    )

pub returns-in-Err-clause-refuses : goal.returns-in-Err-clause-refuses
returns-in-Err-clause-refuses g c = λ m front table behind trunks told world kind is. inl (c.in-Err.ensures.refuses m front table behind trunks told world kind is)
