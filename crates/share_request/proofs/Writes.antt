-- The writer takes a record's responses as the walk finds them, and what it writes is the view's share request.
-- Assumes nothing.
use Prim.Native.Nat.{ℕ, ◌≤◌, ◌<◌}
use mathlib.Core.Path.{◌≡◌}
use mathlib.Core.Bool.{true}
use mathlib.Core.List.{List}
use native.Mathlib.Omega.{arith}
use borrow.Author.Tests.{le-leb, le-ltb}
use lib.Dec.{leb}
use lib.ListN.{length, length-map, length-take, get_or}
use Rattle.wire.specs.Bytes.{All, every}
use Rattle.wire.proofs.Lists.{and_both, all_imp}
use Rattle.layout.specs.Limits.{message_limit, signer_limit, answer_length}
use Rattle.layout.specs.declared.SignatureType.{SignatureType}
use Rattle.framing.specs.Writing.{written, writing}
use Rattle.body.specs.Body.{root_of}
use Rattle.pieces.specs.declared.places.ResponsePlaces.{ResponsePlaces}
use Rattle.pieces.specs.Places.{places_of, response_holds, responses_hold}
use Rattle.requests.specs.Requests.{share_request_of, write_share_request}
use Rattle.state.specs.declared.fields.Coordinator.{Coordinator}
use Rattle.state.specs.declared.fields.SignerSlot.{SignerSlot}
use Rattle.state.specs.Counts.{entries}
use Rattle.state.specs.Slots.{collect}
use Rattle.state.specs.View.{ids_of, slots_of, no_row}
use Rattle.state.proofs.SignerSlots.{slots_low}
use Rattle.signers.specs.Order.{place_in}
use Rattle.signers.proofs.Walking.{responses_at, places_hold}
use Rattle.share_request.specs.ShareRequest.{Sendable, request_bytes}

module _ (s : Coordinator) (store : List ℕ) (r : ℕ) (m : List ℕ) (t : SignatureType) (room : ℕ) (ok : Sendable s r (length store) (length m) room)
    (ps : ResponsePlaces) (few : ps.count ≤ signer_limit)
    (walked : places_of ps ≡ collect (place_in r (get_or s.records.rows r no_row)) (slots_of s.config)) where
  low : All (λ (e : SignerSlot). e.slot < s.config.count) (slots_of s.config)
  unfolding entries
  low =
      all_imp (slots_of s.config)
      (λ (e : SignerSlot) (l : e.slot < length (ids_of s.config)). omega (arith, simp (length-map, length-take) at l))
      (slots_low (ids_of s.config))

  holds : responses_hold (length store) ps ≡ true
  unfolding responses_hold
  holds =
      and_both (leb ps.count signer_limit) (every (response_holds (length store)) (places_of ps)) (le-leb ps.count signer_limit few)
      (rw walked
      (places_hold (length store) r s.config.count (get_or s.records.rows r no_row) (slots_of s.config) ok.stored ok.row ok.signers
      ok.within low))

  pub writes :
      write_share_request room (record { ids = s.ids; signature_type = t; root = s.position.root }) m store ps
      ≡ written (request_bytes s store r m t)
  unfolding write_share_request writing share_request_of root_of
  writes =
      rw (le-ltb room answer_length ok.wide, le-leb (length m) message_limit ok.short, holds, walked, responses_at (slots_of s.config) store r (get_or s.records.rows r no_row))
