-- 13 and 14, by their tests.
-- Assumes nothing.
use Rattle.std.specs.Prelude.{Err, Ok}
use mathlib.Core.Path.{◌≡◌}
use mathlib.Core.Bool.{Bool, true, false}
use Rattle.layout.specs.declared.Header.{Header}
use Rattle.state.specs.declared.fields.Coordinator.{Coordinator}
use Rattle.messages.specs.Verified.{sender_known, verified_asked}

module _ (h : Header) (verdict : Bool) (s : Coordinator) where
  pub the_not_asked : s.config.verify_packet_sigs ≡ false → (Ok tt) ≡ verified_asked h verdict s
  unfolding verified_asked
  the_not_asked e = rw e

  module _ (on : s.config.verify_packet_sigs ≡ true) where
    pub asked_13 : s.keys.coordinator ≡ false → Err 13 ≡ verified_asked h verdict s
    unfolding verified_asked
    asked_13 k = rw (on, k)

    module _ (held : s.keys.coordinator ≡ true) (known : Bool) (sender : known ≡ sender_known s.config h) where
      pub asked_14 : known ≡ false → Err 14 ≡ verified_asked h verdict s
      unfolding verified_asked
      asked_14 e = rw (← sender, on, held, e)

      pub seal_14 : known ≡ true → verdict ≡ false → Err 14 ≡ verified_asked h verdict s
      unfolding verified_asked
      seal_14 e f = rw (← sender, on, held, e, f)

      pub all_asked : known ≡ true → verdict ≡ true → (Ok tt) ≡ verified_asked h verdict s
      unfolding verified_asked
      all_asked e f = rw (← sender, on, held, e, f)
