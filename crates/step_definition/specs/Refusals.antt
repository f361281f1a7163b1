-- "What a refusal changes: 1 to 3, as said above; 10 on an Idle packet, the iteration (on a start call, nothing); 10 in NonceGather, the
-- record made and the message; 11, message and sign id; 20 to 22, the waiter; 23, the job is no longer out. Otherwise nothing."
use Rattle.std.specs.Prelude.{ℕ, Bool, false, cond, not, ◌&&◌, ◌||◌, eqb, leb}
use Rattle.layout.specs.Decode.{Decoded, taken, refused, decode}
use Rattle.step_definition.specs.Ids.{previous}
use Rattle.step_definition.specs.Coordinator.{Coordinator, Held, uncommissioned, miscounted, commissioned, with_message, with_job, with_iteration}
use Rattle.step_definition.specs.Calls.{Request, commission, other}
use Rattle.step_definition.specs.Calls.{Operation, set_key, take_results, can_move, start_signing, receive, process_timeout, aggregated}
use Rattle.step_definition.specs.Calls.{reset, tell_arrivals}
use Rattle.step_definition.specs.Effects.{recording, freeing}
use Rattle.step_definition.specs.Phases.{Content, a_nonce_request, a_nonce_response, a_share_response, a_dkg_begin, unheard, content_of}
use Rattle.step_definition.specs.Starts.{naming}

-- the numbers of refusals after which nothing differs: not 0, not 1 to 3, 10, 11, 20 to 23
abbrev pub unchanging : ℕ → Bool
unchanging n = not (leb n 3 || (eqb n 10 || (eqb n 11 || (leb 20 n && leb n 23))))

-- by the packet's message, at the call's clock reading: 10 of a nonce request (Idle) leaves its iteration minus 1; 10 of a nonce response
-- leaves the record made, its reading included (02, e), and the message; 20 to 22 of a share response take its signer off the waiters
unfoldable pub changed_by : ℕ → ℕ → Content → Coordinator → Coordinator
changed_by now n (a_nonce_request r) c = cond (eqb n 10) (with_iteration (previous r.ids.sign_iter_id) c) c
changed_by now n (a_nonce_response q) c = cond (eqb n 10) (with_message q.message (recording now q c)) c
changed_by now n (a_share_response r) c = cond (eqb n 20 || eqb n 21 || eqb n 22) (freeing r.signer_id c) c
changed_by now n (a_dkg_begin dkg) c = c
changed_by now n unheard c = c

unfoldable pub changed_by_packet : ℕ → ℕ → Decoded → Coordinator → Coordinator
changed_by_packet now n (taken m) c = changed_by now n (content_of m) c
changed_by_packet now n (refused k) c = c

-- by the call
unfoldable pub changed_in : ℕ → ℕ → Operation → Coordinator → Coordinator
changed_in now n (set_key which held) c = c
changed_in now n (take_results dkg ended) c = c
changed_in now n (can_move p) c = c
changed_in now n (start_signing s) c = cond (eqb n 11) (naming s c) c
changed_in now n (receive entry bytes) c = changed_by_packet now n (decode bytes) c
changed_in now n process_timeout c = c
changed_in now n (aggregated ok) c = cond (eqb n 23) (with_job false c) c
changed_in now n reset c = c
changed_in now n tell_arrivals c = c

unfoldable pub held_after : ℕ → ℕ → Operation → Held → Held
held_after now n o uncommissioned = uncommissioned
held_after now n o miscounted = miscounted
held_after now n o (commissioned c) = commissioned (changed_in now n o c)

-- what is held after a call, at this clock reading, was refused with the number
unfoldable pub after_refusal : ℕ → ℕ → Request → Held → Held
after_refusal now n (commission g) h = uncommissioned
after_refusal now n (other o) h = held_after now n o h
