-- `put_share`: two writes.
-- Assumes nothing.
use Prim.Native.Nat.{ℕ, ◌/◌}
use mathlib.Core.Path.{ap, ◌∙◌}
use mathlib.Core.List.{List}
use lib.ListN.{length, length-drop}
use Rattle.shares.proofs.put_share.Goals as goal

pub returns : goal.returns
returns c =
    let keys = c.share_key_ids-key_ids.ensures in
    let head = c.part.ensures in
    let share = c.args.share.now in record {
      value = ap (λ (l : List ℕ). length l / 4) keys ∙ ap (λ (n : ℕ). n / 4) (length-drop 36 share);
      store_after = rw (c.copy-2.ensures, c.copy.ensures, keys, head);
    }
