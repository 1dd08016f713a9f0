use Rattle.std.proofs.Common.{sym, ◌∙◌}
use Rattle.std.proofs.lemmas.Bool.{both_ways}
use Rattle.format_spec.specs.Header.{HasMagic}
use Rattle.small_spec.specs.SmallFile.{HasFields, small_layout, small_state}
use Rattle.small_file.proofs.header.is_small_header.Goals as goal
use Rattle.small_file.proofs.header.is_small_header.Goals.{then-has_magic, else-has_magic, then-has_layout, else-has_layout}

pub returns-then-has_state : goal.returns-then-has_state
returns-then-has_state c =
    let bytes = c.args.bytes.now in
    let parts : HasMagic bytes × HasFields small_layout bytes × HasFields small_state bytes = elim c.if-has_layout.branch [
      | then-has_layout v ↦ elim c.if-has_magic.branch [
        | then-has_magic w ↦ (c.has_magic.ensures.0 w.if-has_magic.true, w.has_layout.ensures.0 (sym w.value-is ∙ v.if-has_layout.true), v.has_state.ensures.0 (sym v.value-is ∙ c.if-has_state.true))
        | else-has_magic w ↦ absurd (both_ways c.if-has_magic.value (w.value-is ∙ w.if-has_magic.false) v.if-has_layout.true)
      ]
      | else-has_layout v ↦ absurd (both_ways c.if-has_layout.value (v.value-is ∙ v.if-has_layout.false) c.if-has_state.true)
    ] in
    (λ t. record { magic = parts.0; layout = parts.1; state = parts.2; valid = c.has_valid_size.ensures.0 t }, λ h. c.has_valid_size.ensures.1 h.valid)

pub returns-else-has_state : goal.returns-else-has_state
returns-else-has_state c = (
  λ t. absurd (both_ways c.if-has_layout.value c.if-has_state.false t),
  λ h. absurd (elim c.if-has_layout.branch [
    | then-has_layout v ↦ both_ways v.has_state.result (sym v.value-is ∙ c.if-has_state.false) (v.has_state.ensures.1 h.state)
    | else-has_layout v ↦ elim c.if-has_magic.branch [
      | then-has_magic w ↦ both_ways w.has_layout.result (sym w.value-is ∙ v.if-has_layout.false) (w.has_layout.ensures.1 h.layout)
      | else-has_magic w ↦ both_ways c.has_magic.result w.if-has_magic.false (c.has_magic.ensures.1 h.magic)
    ]
  ]),
)
