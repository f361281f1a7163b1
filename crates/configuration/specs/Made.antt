-- The configuration as it is kept: the signers in the slots in the order given, "each key set ascending"; what is past the counts holds 0.
use Rattle.std.specs.Prelude.{ℕ, ◌-◌, false, List, [], ◌++◌, map, length, take, replicate, None}
use Rattle.layout.specs.Limits.{signer_limit}
use Rattle.validity.specs.declared.keys.KeyIds.{KeyIds}
use Rattle.validity.specs.Keys.{key_places}
use Rattle.step_definition.specs.Ids.{insert_all}
use Rattle.state.specs.declared.fields.Timeouts.{Timeouts}
use Rattle.state.specs.declared.fields.SignerEntry.{SignerEntry}
use Rattle.state.specs.declared.fields.Config.{Config}
use Rattle.configuration.specs.declared.new_config.NewSigner.{NewSigner}
use Rattle.configuration.specs.declared.new_config.NewConfig.{NewConfig}
use Rattle.configuration.specs.NewConfig.{keys_given}

-- these keys in sixteen places
abbrev pub placed : List ℕ → KeyIds
placed ks = record { ids = key_places ks; count = length ks }

unfoldable pub entry_of : NewSigner → SignerEntry
entry_of s = record { id = s.id; has_keys = s.has_keys; keys = placed (insert_all (keys_given s) []) }

abbrev pub blank_entry : SignerEntry
blank_entry = record { id = record { 0 = 0 }; has_keys = false; keys = placed [] }

-- in an array of n places what is made of the first i of xs; d stands in the places past them
abbrev pub filled : {A B : Type 0} → (A → B) → B → ℕ → List A → ℕ → List B
filled f d n xs i = map f (take i xs) ++ replicate (n - i) d

unfoldable pub config_from : NewConfig → Config
config_from g =
    record {
      num_signers = g.num_signers;
      num_keys = g.num_keys;
      threshold = g.threshold;
      dkg_threshold = g.dkg_threshold;
      sign_threshold = g.sign_threshold;
      timeouts = g.timeouts;
      signers = filled entry_of blank_entry signer_limit g.signers g.count;
      count = g.count;
      verify_packet_sigs = g.verify_packet_sigs;
    }

abbrev pub no_timeouts : Timeouts
no_timeouts = record { dkg_public = None; dkg_private = None; dkg_end = None; nonce = None; sign = None }

-- all zeros, no timeout
unfoldable pub blank_config : Config
blank_config =
    record {
      num_signers = 0;
      num_keys = 0;
      threshold = 0;
      dkg_threshold = 0;
      sign_threshold = 0;
      timeouts = no_timeouts;
      signers = replicate signer_limit blank_entry;
      count = 0;
      verify_packet_sigs = false;
    }
