-- The configuration (coordinator/mod.rs, Config, without the private key, which stays with the host), and commissioning's questions.
use Rattle.std.specs.Prelude.{Option, Some, None, ℕ, ◌+◌, Bool, ◌&&◌, List, [], ◌∷◌, map, eqb, leb, length}
use Rattle.wire.specs.Bytes.{every}
use Rattle.layout.specs.Limits.{list_limit, signer_limit}
use Rattle.step_definition.specs.Lists.{is_some, given, find, insert_by}
use Rattle.step_definition.specs.Ids.{insert_all, distinct}

-- a signer with a public key. "A signer may have no key set entry", which is not the same as an empty set
pub record SignerConfig : Type 0 where
  pub id : ℕ
  pub key_ids : Option (List ℕ)

-- in nanoseconds; none never fires
pub record Timeouts : Type 0 where
  pub dkg_public : Option ℕ
  pub dkg_private : Option ℕ
  pub dkg_end : Option ℕ
  pub nonce : Option ℕ
  pub sign : Option ℕ

pub record Config : Type 0 where
  pub num_signers : ℕ
  pub num_keys : ℕ
  pub threshold : ℕ
  pub dkg_threshold : ℕ
  pub sign_threshold : ℕ
  pub timeouts : Timeouts
  pub signers : List SignerConfig
  pub verify_packet_sigs : Bool

abbrev pub config_signer_id : SignerConfig → ℕ
config_signer_id s = s.id

-- the keys of a key set entry; no entry has none
abbrev pub keys_in : Option (List ℕ) → List ℕ
keys_in entry = given entry (λ (keys : List ℕ). keys) []

-- "at most 10 signers, ids distinct (1)?"
unfoldable pub question1 : Config → Bool
question1 g = leb (length g.signers) signer_limit && distinct (map config_signer_id g.signers)

-- "Every key set at most 16 keys, none twice (2)?"
unfoldable pub question2 : Config → Bool
question2 g = every (λ (s : SignerConfig). leb (length (keys_in s.key_ids)) list_limit && distinct (keys_in s.key_ids)) g.signers

unfoldable pub set_sizes : List SignerConfig → ℕ
set_sizes [] = 0
set_sizes (s ∷ ss) = length (keys_in s.key_ids) + set_sizes ss

-- "Set sizes together at most num_keys (3)?"
unfoldable pub question3 : Config → Bool
question3 g = leb (set_sizes g.signers) g.num_keys

-- the configuration is kept with its ids and each key set ascending, so that those that are equal as the Rust's maps and sets are equal
abbrev pub ascending_set : SignerConfig → SignerConfig
ascending_set s = record { id = s.id; key_ids = given s.key_ids (λ (keys : List ℕ). Some (insert_all keys [])) None }

unfoldable pub ascending_signers : List SignerConfig → List SignerConfig
ascending_signers [] = []
ascending_signers (s ∷ ss) = insert_by config_signer_id (ascending_set s) (ascending_signers ss)

unfoldable pub ascending : Config → Config
ascending g =
    record {
      num_signers = g.num_signers;
      num_keys = g.num_keys;
      threshold = g.threshold;
      dkg_threshold = g.dkg_threshold;
      sign_threshold = g.sign_threshold;
      timeouts = g.timeouts;
      signers = ascending_signers g.signers;
      verify_packet_sigs = g.verify_packet_sigs;
    }

-- the signer's entry in the configuration
abbrev pub signer_of : Config → ℕ → Option SignerConfig
signer_of g id = find (λ (s : SignerConfig). eqb id s.id) g.signers

-- whether the signer has a public key in the configuration
abbrev pub configured : Config → ℕ → Bool
configured g id = is_some (signer_of g id)

-- the signer's key set entry
abbrev pub key_set_of : Config → ℕ → Option (List ℕ)
key_set_of g id = given (signer_of g id) (λ (s : SignerConfig). s.key_ids) None

-- compute_num_key_ids: the sizes of these signers' key sets, summed
unfoldable pub num_key_ids : Config → List ℕ → ℕ
num_key_ids g [] = 0
num_key_ids g (id ∷ ids) = length (keys_in (key_set_of g id)) + num_key_ids g ids
