-- Demand 3 in a host's words: its calls on its structs and stores.
use Rattle.std.specs.Prelude.{Option, Some, None, ℕ, suc, ◌≡◌, true, cond, List, [], ◌∷◌, eqb, length, get_or}
use Rattle.wire.specs.Bytes.{Bytes}
use Rattle.layout.specs.Fits.{IdsFit}
use Rattle.layout.specs.Messages.{signature_share_request}
use Rattle.layout.specs.Encode.{encode}
use Rattle.step_definition.specs.ResponseLog.{Place}
use Rattle.step_definition.specs.Demand3.{plain_request, group_key_in}
use Rattle.state.specs.declared.fields.Coordinator.{Coordinator}
use Rattle.configuration.specs.declared.new_config.NewConfig.{NewConfig}
use Rattle.coordinator_theorems.specs.Host.{commission, Formed, Makeable}
use Rattle.coordinator_theorems.specs.Host.{HostCall, Host, turn_of, host_step, viewed, as_request}

-- the numbers of a struct's ids, message and root are those of their types
pub record Fits (s : Coordinator) : Type 0 where
  pub ids : IdsFit s.ids
  pub message : Bytes s.message.bytes
  pub root : Bytes s.position.root

-- the first byte of what a call wrote is its packet's kind
abbrev pub kind_written : HostCall → Host → ℕ
kind_written k x = get_or (turn_of k x).answer.bytes 0 0

-- "a list without start, reset or commissioning", "the group key held throughout"
abbrev pub HostPlain : List HostCall → Host → Type 0
HostPlain [] x = Unit {0}
HostPlain (k ∷ ks) x = (plain_request (as_request k.request) ≡ true) × (group_key_in (viewed x) ≡ true) × HostPlain ks (host_step k x)

-- the first call of a list that writes a packet of kind 3, by its place, with the bytes
pub record Written : Type 0 where
  pub call : ℕ
  pub bytes : List ℕ

unfoldable pub later : Option Written → Option Written
later None = None
later (Some w) = Some (record { call = suc w.call; bytes = w.bytes })

unfoldable pub first_kind3 : List HostCall → Host → Option Written
first_kind3 [] x = None
first_kind3 (k ∷ ks) x =
    cond (eqb (kind_written k x) 3) (Some (record { call = 0; bytes = (turn_of k x).answer.bytes })) (later (first_kind3 ks (host_step k x)))

-- the call that the round's book names, with the bytes of its share request
unfoldable pub named : Option Place → Option Written
named None = None
named (Some p) = Some (record { call = p.call; bytes = encode (signature_share_request p.request) })

-- where a watch begins: at a commissioning, or at a call that writes a nonce request
pub data HostBegins : Host → Type 0 where
  commissioning :
      (k : HostCall) (x : Host) (g : NewConfig) → k.request ≡ commission g → Formed x.struct → Makeable (length x.store) k
      → HostBegins (host_step k x)
  opening :
      (k : HostCall) (x : Host) → kind_written k x ≡ 1 → Formed x.struct → Makeable (length x.store) k → HostBegins (host_step k x)
