-- The contracts of the library's functions are what the theorems about its calls speak of: each is equated, whole, with what `Made` says
-- of its call; and those of a signer's writers, with the definitions that Responses.antt speaks of. A contract that asks something of
-- its caller, or promises something else, is refused here.
-- Assumes nothing.
use Prim.Native.Nat.{ℕ}
use mathlib.Core.Path.{◌≡◌, refl}
use mathlib.Core.List.{List, []}
use contract.Lifetimes.{Lfts}
use borrow.Fn.World.{World}
use denote.Ref.{Bor}
use denote.MutBor.{MutBor}
use lib.ListN.{length}
use Rattle.calls.specs.declared.held_keys.HeldKey.TheVariants as Which
use Rattle.packet_entry.specs.declared.Entry.TheVariants.{Process, ProcessMessage}
use Rattle.library_start.specs.Given.{started_turn, moved_turn}
use Rattle.library_commission.specs.Commissioned.{commissioned_turn}
use Rattle.framing.specs.Writing.{Wrote}
use Rattle.responses.specs.declared.lists.ResponseHead.{ResponseHead}
use Rattle.responses.specs.Responses.{write_nonce_response, write_signature_share_response}
use Rattle.responses.specs.contracts.nonces.write_nonce_response as write_nonce_response'
use Rattle.responses.specs.contracts.shares.write_signature_share_response as write_signature_share_response'
use Rattle.library_writers.specs.declared.given.RcResponseHead.{RcResponseHead}
use Rattle.interface.specs.declared.answers.RcAnswer.{RcAnswer}
use Rattle.interface.specs.declared.configs.RcConfig.{RcConfig}
use Rattle.coordinator_theorems.specs.Host.{turn_for}
use Rattle.coordinator_theorems.specs.CallContracts.{at, promising}
use Rattle.roundcabinet.specs.contracts.rc_commission as rc_commission
use Rattle.roundcabinet.specs.contracts.rc_set_coordinator_key as rc_set_coordinator_key
use Rattle.roundcabinet.specs.contracts.rc_set_group_key as rc_set_group_key
use Rattle.roundcabinet.specs.contracts.rc_take_results as rc_take_results
use Rattle.roundcabinet.specs.contracts.rc_start_signing_round as rc_start_signing_round
use Rattle.roundcabinet.specs.contracts.rc_process as rc_process
use Rattle.roundcabinet.specs.contracts.rc_process_message as rc_process_message
use Rattle.roundcabinet.specs.contracts.rc_process_timeout as rc_process_timeout
use Rattle.roundcabinet.specs.contracts.rc_aggregated as rc_aggregated
use Rattle.roundcabinet.specs.contracts.rc_reset as rc_reset
use Rattle.roundcabinet.specs.contracts.rc_can_move_to as rc_can_move_to
use Rattle.roundcabinet.specs.contracts.rc_tell_arrivals as rc_tell_arrivals
use Rattle.roundcabinet.specs.contracts.rc_write_nonce_response as rc_write_nonce_response
use Rattle.roundcabinet.specs.contracts.rc_write_signature_share_response as rc_write_signature_share_response
use Rattle.library_theorems.specs.Library.{LibraryRequest, commission, set_key, take_results, start_signing_round, receive}
use Rattle.library_theorems.specs.Library.{process_timeout, aggregated, reset, tell_arrivals, can_move_to}
use Rattle.library_theorems.specs.Library.{request_of, is_said, library_turn, saves, Gave}
use Rattle.library_theorems.specs.Responses.{WroteNonceResponse, WroteShareResponse}

module _ (w : World) (state : MutBor (List ℕ)) where
  -- calls that take no answer buffer: the contract looks at no clock and at no verdict
  module _ (clock verdict : ℕ) where
    abbrev Plain : List ℕ → LibraryRequest → RcAnswer → List ℕ → List ℕ → Type 0
    Plain store q r state' store' = Gave q clock verdict state.now store [] r state' store' []

    pub commission-is :
        (store : MutBor (List ℕ)) (κs : Lfts 2) (g : RcConfig)
        → at w rc_commission.clauses κs (state, (store, (g, tt)))
        ≡ promising w rc_commission.ended κs (λ r e. Plain store.now (commission g) r e.0.now e.1.0.now)
    unfolding library_turn is_said saves request_of turn_for commissioned_turn
    commission-is store κs g = refl

    pub set-coordinator-key-is :
        (store : Bor (List ℕ)) (κs : Lfts 2) (held : ℕ)
        → at w rc_set_coordinator_key.clauses κs (state, (store, (held, tt)))
        ≡ promising w rc_set_coordinator_key.ended κs (λ r e. Plain store.now (set_key Which.Coordinator held) r e.0.now store.now)
    unfolding library_turn is_said saves request_of turn_for
    set-coordinator-key-is store κs held = refl

    pub set-group-key-is :
        (store : Bor (List ℕ)) (κs : Lfts 2) (held : ℕ)
        → at w rc_set_group_key.clauses κs (state, (store, (held, tt)))
        ≡ promising w rc_set_group_key.ended κs (λ r e. Plain store.now (set_key Which.Aggregate held) r e.0.now store.now)
    unfolding library_turn is_said saves request_of turn_for
    set-group-key-is store κs held = refl

    pub take-results-is :
        (store : Bor (List ℕ)) (κs : Lfts 3) (dkg : ℕ) (ended : Bor (List ℕ))
        → at w rc_take_results.clauses κs (state, (store, (dkg, (ended, tt))))
        ≡ promising w rc_take_results.ended κs (λ r e. Plain store.now (take_results dkg ended.now) r e.0.now store.now)
    unfolding library_turn is_said saves request_of turn_for
    take-results-is store κs dkg ended = refl

    pub aggregated-is :
        (store : Bor (List ℕ)) (κs : Lfts 2) (ok : ℕ)
        → at w rc_aggregated.clauses κs (state, (store, (ok, tt)))
        ≡ promising w rc_aggregated.ended κs (λ r e. Plain store.now (aggregated ok) r e.0.now store.now)
    unfolding library_turn is_said saves request_of turn_for
    aggregated-is store κs ok = refl

    pub reset_is :
        (store : Bor (List ℕ)) (κs : Lfts 2)
        → at w rc_reset.clauses κs (state, (store, tt)) ≡ promising w rc_reset.ended κs (λ r e. Plain store.now reset r e.0.now store.now)
    unfolding library_turn is_said saves request_of turn_for
    reset_is store κs = refl

    pub can-move-to-is :
        (store : Bor (List ℕ)) (κs : Lfts 3) (next t : ℕ) (root : Bor (List ℕ))
        → at w rc_can_move_to.clauses κs (state, (store, (next, (t, (root, tt)))))
        ≡ promising w rc_can_move_to.ended κs (λ r e. Plain store.now (can_move_to next t root.now) r e.0.now store.now)
    unfolding library_turn is_said saves request_of turn_for moved_turn
    can-move-to-is store κs next t root = refl

  -- calls that are lent one
  module _ (out : MutBor (List ℕ)) (clock : ℕ) where
    abbrev Writes : List ℕ → LibraryRequest → ℕ → RcAnswer → List ℕ → List ℕ → List ℕ → Type 0
    Writes store q verdict r state' store' out' = Gave q clock verdict state.now store out.now r state' store' out'

    pub start-signing-round-is :
        (store : Bor (List ℕ)) (κs : Lfts 5) (verdict : ℕ) (message : Bor (List ℕ)) (t : ℕ) (root : Bor (List ℕ)) (given id : ℕ)
        → at w rc_start_signing_round.clauses κs (state, (store, (out, (clock, (message, (t, (root, (given, (id, tt)))))))))
        ≡ promising w rc_start_signing_round.ended κs
        (λ r e. Writes store.now (start_signing_round message.now t root.now given id) verdict r e.0.now store.now e.1.1.0.now)
    unfolding library_turn is_said saves request_of turn_for started_turn
    start-signing-round-is store κs verdict message t root given id = refl

    pub process-is :
        (store : MutBor (List ℕ)) (κs : Lfts 4) (verdict : ℕ) (packet : Bor (List ℕ))
        → at w rc_process.clauses κs (state, (store, (out, (clock, (verdict, (packet, tt))))))
        ≡ promising w rc_process.ended κs
        (λ r e. Writes store.now (receive Process packet.now) verdict r e.0.now e.1.0.now e.1.1.0.now)
    unfolding library_turn is_said saves request_of turn_for
    process-is store κs verdict packet = refl

    pub process-message-is :
        (store : MutBor (List ℕ)) (κs : Lfts 4) (verdict : ℕ) (packet : Bor (List ℕ))
        → at w rc_process_message.clauses κs (state, (store, (out, (clock, (verdict, (packet, tt))))))
        ≡ promising w rc_process_message.ended κs
        (λ r e. Writes store.now (receive ProcessMessage packet.now) verdict r e.0.now e.1.0.now e.1.1.0.now)
    unfolding library_turn is_said saves request_of turn_for
    process-message-is store κs verdict packet = refl

    pub process-timeout-is :
        (store : Bor (List ℕ)) (κs : Lfts 3) (verdict : ℕ)
        → at w rc_process_timeout.clauses κs (state, (store, (out, (clock, tt))))
        ≡ promising w rc_process_timeout.ended κs (λ r e. Writes store.now process_timeout verdict r e.0.now store.now e.1.1.0.now)
    unfolding library_turn is_said saves request_of turn_for
    process-timeout-is store κs verdict = refl

    -- the query is lent the state to read
    pub tell-arrivals-is :
        (state store : Bor (List ℕ)) (κs : Lfts 3) (verdict : ℕ)
        → at w rc_tell_arrivals.clauses κs (state, (store, (out, tt)))
        ≡ promising w rc_tell_arrivals.ended κs (λ r e. Gave tell_arrivals clock verdict state.now store.now out.now r state.now store.now e.1.1.0.now)
    unfolding library_turn is_said saves request_of turn_for
    tell-arrivals-is state store κs verdict = refl

-- a signer's writers, for C and for a host in Rattle: they are lent a buffer, and no state
module _ (w : World) (out : MutBor (List ℕ)) (message key_ids nonces : Bor (List ℕ)) where
  pub rc-write-nonce-response-is :
      (κs : Lfts 4) (h : RcResponseHead)
      → at w rc_write_nonce_response.clauses κs (out, (h, (message, (key_ids, (nonces, tt)))))
      ≡ promising w rc_write_nonce_response.ended κs
      (λ r e. WroteNonceResponse out.now h message.now key_ids.now nonces.now r e.0.now)
  rc-write-nonce-response-is κs h = refl

  pub write-nonce-response-is :
      (κs : Lfts 4) (h : ResponseHead)
      → at w write_nonce_response'.clauses κs (out, (h, (message, (key_ids, (nonces, tt)))))
      ≡ promising w write_nonce_response'.ended κs
      (λ r e. Wrote (write_nonce_response (length out.now) h message.now key_ids.now nonces.now) out.now r e.0.now)
  write-nonce-response-is κs h = refl

module _ (w : World) (out : MutBor (List ℕ)) (ids z_i counts key_ids : Bor (List ℕ)) where
  pub rc-write-signature-share-response-is :
      (κs : Lfts 5) (h : RcResponseHead)
      → at w rc_write_signature_share_response.clauses κs (out, (h, (ids, (z_i, (counts, (key_ids, tt))))))
      ≡ promising w rc_write_signature_share_response.ended κs
      (λ r e. WroteShareResponse out.now h ids.now z_i.now counts.now key_ids.now r e.0.now)
  rc-write-signature-share-response-is κs h = refl

  pub write-signature-share-response-is :
      (κs : Lfts 5) (h : ResponseHead)
      → at w write_signature_share_response'.clauses κs (out, (h, (ids, (z_i, (counts, (key_ids, tt))))))
      ≡ promising w write_signature_share_response'.ended κs
      (λ r e. Wrote (write_signature_share_response (length out.now) h ids.now z_i.now counts.now key_ids.now)
      out.now r e.0.now)
  write-signature-share-response-is κs h = refl
