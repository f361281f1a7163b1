-- "Message, where verification is on: coordinator key held (13)? Signer configured, for signer kinds, and host verdict good (14)?"
use Rattle.state.specs.Passed.{Passed}
use Rattle.std.specs.Prelude.{Bool, cond, not, ◌||◌, ◌&&◌, Err, Ok}
use Rattle.layout.specs.declared.Header.{Header}
use Rattle.layout.specs.Types.{signer_kind}
use Rattle.step_definition.specs.Lists.{is_some}
use Rattle.state.specs.declared.fields.Config.{Config}
use Rattle.state.specs.declared.fields.Coordinator.{Coordinator}
use Rattle.records.specs.Admits.{slot_of}

unfoldable pub sender_known : Config → Header → Bool
sender_known g h = not (signer_kind h.kind) || is_some (slot_of h.signer_id g)

unfoldable pub verified_asked : Header → Bool → Coordinator → Passed
verified_asked h verdict s =
    cond s.config.verify_packet_sigs
    (cond s.keys.coordinator (cond (sender_known s.config h && verdict) (Ok tt) (Err 14)) (Err 13))
    (Ok tt)
