-- States, the types that they carry, and when fire.rs finds two of them equal.
use Rattle.std.specs.Prelude.{ℕ, Bool, true, cond, ◌&&◌, List, eqb, Option, None, Some}
use Rattle.wire.specs.Bytes.{are_same_bytes}
use Rattle.layout.specs.declared.SignatureType.{SignatureType}
use Rattle.layout.specs.Types.{type_number}
use Rattle.state_table.specs.declared.State.{State}
use Rattle.state_table.specs.declared.State.TheVariants.{Idle, DkgPublicDistribute, DkgPublicGather}
use Rattle.state_table.specs.declared.State.TheVariants.{DkgPublicSharesDoneDistribute, DkgPublicSharesDoneGather}
use Rattle.state_table.specs.declared.State.TheVariants.{DkgPrivateDistribute, DkgPrivateGather}
use Rattle.state_table.specs.declared.State.TheVariants.{DkgPrivateSharesDoneDistribute, DkgPrivateSharesDoneGather}
use Rattle.state_table.specs.declared.State.TheVariants.{DkgEndDistribute, DkgEndGather}
use Rattle.state_table.specs.declared.State.TheVariants.{NonceRequest, NonceGather, SigShareRequest, SigShareGather}

-- "A gathering state carries its signature type; the root lies beside it."
pub record Position : Type 0 where
  pub state : State
  pub root : List ℕ

abbrev pub position : State → List ℕ → Position
position s root = record { state = s; root = root }

-- the type that a state carries
abbrev pub StateType : Type 0
StateType = Option SignatureType

-- the Rust's order
abbrev pub state_number : State → ℕ
state_number Idle = 0
state_number DkgPublicDistribute = 1
state_number DkgPublicGather = 2
state_number DkgPublicSharesDoneDistribute = 3
state_number DkgPublicSharesDoneGather = 4
state_number DkgPrivateDistribute = 5
state_number DkgPrivateGather = 6
state_number DkgPrivateSharesDoneDistribute = 7
state_number DkgPrivateSharesDoneGather = 8
state_number DkgEndDistribute = 9
state_number DkgEndGather = 10
state_number (NonceRequest t) = 11
state_number (NonceGather t) = 12
state_number (SigShareRequest t) = 13
state_number (SigShareGather t) = 14

abbrev pub type_in : State → StateType
type_in Idle = None
type_in DkgPublicDistribute = None
type_in DkgPublicGather = None
type_in DkgPublicSharesDoneDistribute = None
type_in DkgPublicSharesDoneGather = None
type_in DkgPrivateDistribute = None
type_in DkgPrivateGather = None
type_in DkgPrivateSharesDoneDistribute = None
type_in DkgPrivateSharesDoneGather = None
type_in DkgEndDistribute = None
type_in DkgEndGather = None
type_in (NonceRequest t) = Some t
type_in (NonceGather t) = Some t
type_in (SigShareRequest t) = Some t
type_in (SigShareGather t) = Some t

-- SignatureType's ==, "a Taproot root included"; the root beside another type is not compared
unfoldable pub same_type : SignatureType → List ℕ → SignatureType → List ℕ → Bool
same_type t root t' root' = eqb (type_number t) (type_number t') && cond (eqb (type_number t) 3) (are_same_bytes root root') true

-- the types of two states, where both carry one
unfoldable pub types_agree : StateType → List ℕ → StateType → List ℕ → Bool
types_agree a root None root' = true
types_agree None root (Some t') root' = true
types_agree (Some t) root (Some t') root' = same_type t root t' root'

-- State's ==: the same case, with the same type
unfoldable pub same : Position → Position → Bool
same p q = eqb (state_number p.state) (state_number q.state) && types_agree (type_in p.state) p.root (type_in q.state) q.root
