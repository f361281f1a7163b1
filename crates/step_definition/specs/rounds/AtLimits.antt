-- "its counts within these limits": a coordinator that is at every limit is within them, and one more of anything is too much.
use Rattle.std.specs.Prelude.{Some, None, ℕ, Bool, true, false, List, [], ◌∷◌, replicate}
use Rattle.layout.specs.Messages.{NonceResponse, SignatureShare}
use Rattle.layout.specs.Encode.{no_ids}
use Rattle.step_definition.specs.Configuration.{Config}
use Rattle.step_definition.specs.Coordinator.{Coordinator, SignRoundInfo, SignerShares, fresh}
use Rattle.step_definition.specs.Coordinator.{with_ended, with_malicious, with_message, with_records, with_shares}
use Rattle.step_definition.specs.Counts.{within_limits}
use Rattle.step_definition.specs.rounds.Rounds.{configuration}

-- a coordinator, and whether its counts are within the limits
pub record Counted : Type 0 where
  pub coordinator : Coordinator
  pub within : Bool

abbrev pub counted : Coordinator → Bool → Counted
counted c within = record { coordinator = c; within = within }

unfoldable pub count : Counted → Counted
count r = counted r.coordinator (within_limits r.coordinator)

-- so many signers with sets of so many keys, and num_keys
abbrev config : ℕ → ℕ → ℕ → Config
config signers keys num_keys =
    configuration num_keys 3 3 None None (replicate signers (record { id = 0; key_ids = Some (replicate keys 1) })) true

-- a response to a message of so many bytes, with so many keys and nonces
abbrev response : ℕ → ℕ → ℕ → NonceResponse
response message keys nonces =
    record {
      ids = no_ids;
      signer_id = 0;
      message = replicate message 1;
      key_ids = replicate keys 1;
      nonces = replicate nonces (record { D = []; E = [] });
    }

abbrev record_of : ℕ → List NonceResponse → ℕ → ℕ → SignRoundInfo
record_of message qs arrivals waiters =
    record {
      message = replicate message 1;
      public_nonces = qs;
      arrivals = replicate arrivals (record { signer_id = 1; clock = 1 });
      sign_wait_signer_ids = replicate waiters 1;
    }

abbrev record_with : ℕ → List NonceResponse → ℕ → SignRoundInfo
record_with message qs waiters = record_of message qs 0 waiters

abbrev full_record : SignRoundInfo
full_record = record_of 256 (replicate 10 (response 256 16 16)) 10 10

abbrev shares_of : List SignatureShare → SignerShares
shares_of ss = record { signer_id = 0; signature_shares = ss }

abbrev share : ℕ → SignatureShare
share keys = record { id = 0; z_i = []; key_ids = replicate keys 1 }

abbrev full_shares : SignerShares
full_shares = shares_of (share 9 ∷ share 7 ∷ replicate 14 (share 0))

abbrev at_limit : Config → Coordinator
at_limit g =
    with_ended (replicate 10 1)
    (with_malicious (replicate 10 1)
    (with_message (replicate 256 1) (with_records (replicate 4 full_record) (with_shares (replicate 10 full_shares) (fresh g)))))

abbrev full : Coordinator
full = at_limit (config 10 16 160)

abbrev recording : SignRoundInfo → Counted
recording r = counted (with_records (full_record ∷ r ∷ []) full) false

abbrev sharing : SignerShares → Counted
sharing s = counted (with_shares (full_shares ∷ s ∷ []) full) false

unfoldable pub at_limits : List Counted
at_limits =
    counted full true
    ∷ counted (at_limit (config 11 0 160)) false
    ∷ counted (at_limit (config 2 17 160)) false
    ∷ counted (at_limit (config 10 16 159)) false
    ∷ counted (with_ended (replicate 11 1) full) false
    ∷ counted (with_malicious (replicate 11 1) full) false
    ∷ counted (with_message (replicate 257 1) full) false
    ∷ counted (with_records (replicate 5 full_record) full) false
    ∷ counted (with_shares (replicate 11 full_shares) full) false
    ∷ recording (record_with 257 [] 0)
    ∷ recording (record_with 0 (replicate 11 (response 0 0 0)) 0)
    ∷ recording (record_of 0 [] 11 0)
    ∷ recording (record_with 0 [] 11)
    ∷ recording (record_with 0 (response 257 0 0 ∷ []) 0)
    ∷ recording (record_with 0 (response 0 17 0 ∷ []) 0)
    ∷ recording (record_with 0 (response 0 0 17 ∷ []) 0)
    ∷ sharing (shares_of (replicate 17 (share 0)))
    ∷ sharing (shares_of (share 9 ∷ share 8 ∷ []))
    ∷ []
