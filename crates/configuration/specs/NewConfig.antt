-- The configuration that a host gives, in the step definition's terms: of each array the first `count` places, in the order given. A count
-- beyond the array takes all its places, one more than the limit, and is refused just so.
use Rattle.state.specs.Passed.{Passed}
use Rattle.std.specs.Prelude.{ℕ, ◌≤◌, ◌≡◌, Bool, true, cond, ◌&&◌, List, map, leb, length, take, Err, Ok}
use Rattle.wire.specs.Bytes.{every}
use Rattle.layout.specs.Limits.{list_limit, signer_limit}
use Rattle.validity.specs.Keys.{key_number}
use Rattle.step_definition.specs.Ids.{distinct}
use Rattle.step_definition.specs.Configuration as D
use Rattle.state.specs.declared.fields.Timeouts.{Timeouts}
use Rattle.state.specs.Slots.{when}
use Rattle.state.specs.View.{reading}
use Rattle.configuration.specs.declared.new_config.NewKeys.{NewKeys}
use Rattle.configuration.specs.declared.new_config.NewSigner.{NewSigner}
use Rattle.configuration.specs.declared.new_config.NewConfig.{NewConfig}

unfoldable pub numbers_in : NewKeys → List ℕ
numbers_in k = take k.count (map key_number k.ids)

-- "A signer may have no key set entry"
abbrev pub signer_given : NewSigner → D.SignerConfig
signer_given s = record { id = s.id.0; key_ids = when s.has_keys (numbers_in s.keys) }

abbrev pub signers_given : NewConfig → List NewSigner
signers_given g = take g.count g.signers

abbrev pub timeouts_given : Timeouts → D.Timeouts
timeouts_given t =
    record {
      dkg_public = reading t.dkg_public;
      dkg_private = reading t.dkg_private;
      dkg_end = reading t.dkg_end;
      nonce = reading t.nonce;
      sign = reading t.sign;
    }

unfoldable pub new_config_of : NewConfig → D.Config
new_config_of g =
    record {
      num_signers = g.num_signers;
      num_keys = g.num_keys;
      threshold = g.threshold;
      dkg_threshold = g.dkg_threshold;
      sign_threshold = g.sign_threshold;
      timeouts = timeouts_given g.timeouts;
      signers = map signer_given (signers_given g);
      verify_packet_sigs = g.verify_packet_sigs;
    }

-- 1, then 2, then 3
unfoldable pub new_asked : D.Config → Passed
new_asked g = cond (D.question1 g) (cond (D.question2 g) (cond (D.question3 g) (Ok tt) (Err 3)) (Err 2)) (Err 1)

-- the parts of the questions, at the struct: a signer's id, its keys, how many, and 2 of one set
abbrev pub signer_number : NewSigner → ℕ
signer_number s = s.id.0

unfoldable pub keys_given : NewSigner → List ℕ
keys_given s = D.keys_in (signer_given s).key_ids

abbrev pub set_size : NewSigner → ℕ
set_size s = length (keys_given s)

unfoldable pub is_set_within : NewSigner → Bool
is_set_within s = leb (length (keys_given s)) list_limit && distinct (keys_given s)

-- what 1 and 2 say of the places
pub record Accepted (g : NewConfig) : Type 0 where
  pub few : g.count ≤ signer_limit
  pub sets : every is_set_within (signers_given g) ≡ true
