-- 01's worked round as a host's calls. "Signers 0, 1, 2; keys {1}, {2, 3}, {4}; num_keys 4, both thresholds 3, both timeouts 10."
use Rattle.std.specs.Prelude.{ℕ, ◌-◌, ◌≡◌, true, List, [], ◌∷◌, ◌++◌, map, length, replicate, None, Some}
use Rattle.wire.specs.Bytes.{All}
use Rattle.layout.specs.Limits.{store_length, answer_length}
use Rattle.layout.specs.declared.SignatureType.TheVariants.{Frost}
use Rattle.layout.specs.Messages.{nonce_request, nonce_response, signature_share_request}
use Rattle.layout.specs.Encode.{encode}
use Rattle.validity.specs.Keys.{key_of}
use Rattle.step_definition.specs.rounds.Rounds.{nine, q0, q1, request9, shares9}
use Rattle.step_definition.specs.rounds.Kept.{opened9}
use Rattle.configuration.specs.declared.new_config.NewSigner.{NewSigner}
use Rattle.configuration.specs.declared.new_config.NewConfig.{NewConfig}
use Rattle.calls.specs.declared.held_keys.HeldKey.TheVariants as Which
use Rattle.packet_entry.specs.declared.Entry.TheVariants.{ProcessMessage}
use Rattle.coordinator_theorems.specs.Host.{HostRequest, commission, set_key, take_results, start, receive}
use Rattle.coordinator_theorems.specs.Host.{HostCall, Host, turn_of, host_step, host_final, seen, Formed, Makeable}
use Rattle.coordinator_theorems.specs.Demand3.{Fits, kind_written, HostPlain, first_kind3}

-- a signer with its key set, in the seventeen places of a configuration that is given
abbrev pub signer : ℕ → List ℕ → NewSigner
signer id keys =
    record {
      id = record { 0 = id };
      has_keys = true;
      keys = record { ids = map key_of keys ++ replicate (17 - length keys) (key_of 0); count = length keys };
    }

abbrev pub example_given : NewConfig
example_given =
    record {
      num_signers = 3;
      num_keys = 4;
      threshold = 3;
      dkg_threshold = 9;
      sign_threshold = 3;
      timeouts = record { dkg_public = Some 6; dkg_private = Some 7; dkg_end = Some 8; nonce = Some 10; sign = Some 10 };
      signers = signer 0 (1 ∷ []) ∷ signer 1 (2 ∷ 3 ∷ []) ∷ signer 2 (4 ∷ []) ∷ replicate 8 (signer 0 []);
      count = 3;
      verify_packet_sigs = true;
    }

-- at clock 0, the verdict good, 52,224 bytes of the store and an answer buffer of full length lent
abbrev pub lending : HostRequest → HostCall
lending q = record { request = q; clock = 0; verdict = true; lent = store_length; room = answer_length }

-- commissioned, both keys held, key generation's results taken; then message 9 is started, and 0 and 1 answer
abbrev pub host_ready : List HostCall
host_ready =
    lending (commission example_given)
    ∷ lending (set_key Which.Coordinator true)
    ∷ lending (set_key Which.Aggregate true)
    ∷ lending (take_results 1 (0 ∷ 1 ∷ 2 ∷ []))
    ∷ []

abbrev pub host_opener : HostCall
host_opener = lending (start nine (record { signature_type = Frost; root = replicate 32 0; sign_id = None }))

abbrev pub host_answers : List HostCall
host_answers =
    lending (receive ProcessMessage (encode (nonce_response q0))) ∷ lending (receive ProcessMessage (encode (nonce_response q1))) ∷ []

abbrev pub readied : Host → Host
readied x = host_final host_ready x

abbrev pub opened_from : Host → Host
opened_from x = host_step host_opener (readied x)

-- what `host_equal_futures`, `host_next_share_request` and `host_log_is_records` suppose, met from any struct and store x; what two such
-- hosts stand for after the opening call is the same, and so agrees on the four things
pub record HostMet (x : Host) : Type 0 where
  pub ready : All (Makeable (length x.store)) host_ready
  pub formed : Formed (readied x).struct
  pub opener : Makeable (length (readied x).store) host_opener
  pub opens : kind_written host_opener (readied x) ≡ 1
  pub writes : (turn_of host_opener (readied x)).answer.bytes ≡ encode (nonce_request (request9 1))
  pub stands : seen (opened_from x) ≡ opened9
  pub fits : Fits (opened_from x).struct
  pub answers : All (Makeable (length (readied x).store)) host_answers
  pub plain : HostPlain host_answers (opened_from x)
  pub sends :
      first_kind3 host_answers (opened_from x)
      ≡ Some (record { call = 1; bytes = encode (signature_share_request (shares9 (q0 ∷ q1 ∷ []))) })
