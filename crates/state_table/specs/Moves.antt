-- `can_move_to`, target by target, as fire.rs writes it (lines 1475 to 1515). "Idle may always be entered."
use Rattle.std.specs.Prelude.{ℕ, Bool, true, ◌||◌, List, [], ◌∷◌, get_or}
use Rattle.layout.specs.declared.SignatureType.TheVariants.{Frost}
use Rattle.state_table.specs.declared.State.{State}
use Rattle.state_table.specs.declared.State.TheVariants.{Idle, DkgPublicDistribute, DkgPublicGather}
use Rattle.state_table.specs.declared.State.TheVariants.{DkgPublicSharesDoneDistribute, DkgPublicSharesDoneGather}
use Rattle.state_table.specs.declared.State.TheVariants.{DkgPrivateDistribute, DkgPrivateGather}
use Rattle.state_table.specs.declared.State.TheVariants.{DkgPrivateSharesDoneDistribute, DkgPrivateSharesDoneGather}
use Rattle.state_table.specs.declared.State.TheVariants.{DkgEndDistribute, DkgEndGather}
use Rattle.state_table.specs.declared.State.TheVariants.{NonceRequest, NonceGather, SigShareRequest, SigShareGather}
use Rattle.state_table.specs.States.{Position, position, same}

-- whether the previous state p lets the state be entered, with the root that lies beside it
unfoldable pub accepted : State → List ℕ → Position → Bool
accepted Idle root p = true
accepted DkgPublicDistribute root p = same p (position Idle root)
accepted DkgPublicGather root p = same p (position DkgPublicDistribute root) || same p (position DkgPublicGather root)
accepted DkgPublicSharesDoneDistribute root p = same p (position DkgPublicGather root)
accepted DkgPublicSharesDoneGather root p =
    same p (position DkgPublicSharesDoneDistribute root) || same p (position DkgPublicSharesDoneGather root)
accepted DkgPrivateDistribute root p = same p (position DkgPublicSharesDoneGather root)
accepted DkgPrivateGather root p = same p (position DkgPrivateDistribute root) || same p (position DkgPrivateGather root)
accepted DkgPrivateSharesDoneDistribute root p = same p (position DkgPrivateGather root)
accepted DkgPrivateSharesDoneGather root p =
    same p (position DkgPrivateSharesDoneDistribute root) || same p (position DkgPrivateSharesDoneGather root)
accepted DkgEndDistribute root p = same p (position DkgPrivateSharesDoneGather root)
accepted DkgEndGather root p = same p (position DkgEndDistribute root)
accepted (NonceRequest t) root p =
    same p (position Idle root) || same p (position DkgEndGather root) || same p (position (SigShareGather t) root)
accepted (NonceGather t) root p = same p (position (NonceRequest t) root) || same p (position (NonceGather t) root)
accepted (SigShareRequest t) root p = same p (position (NonceGather t) root)
accepted (SigShareGather t) root p = same p (position (SigShareRequest t) root) || same p (position (SigShareGather t) root)

unfoldable pub can_move_to : Position → Position → Bool
can_move_to p q = accepted q.state q.root p

-- a state of each number; the signing states with one type
unfoldable pub states : List State
states =
    Idle
    ∷ DkgPublicDistribute
    ∷ DkgPublicGather
    ∷ DkgPublicSharesDoneDistribute
    ∷ DkgPublicSharesDoneGather
    ∷ DkgPrivateDistribute
    ∷ DkgPrivateGather
    ∷ DkgPrivateSharesDoneDistribute
    ∷ DkgPrivateSharesDoneGather
    ∷ DkgEndDistribute
    ∷ DkgEndGather
    ∷ NonceRequest Frost
    ∷ NonceGather Frost
    ∷ SigShareRequest Frost
    ∷ SigShareGather Frost
    ∷ []

-- the table's entry: whether state j may follow state i where their types agree
unfoldable pub allowed : ℕ → ℕ → Bool
allowed i j = can_move_to (position (get_or states i Idle) []) (position (get_or states j Idle) [])
