-- The configuration that plain numbers give.
use Rattle.state.specs.Clock.{Reading}
use Rattle.std.specs.Prelude.{ℕ, Bool, cond, not, map, eqb, None, Some}
use Rattle.validity.specs.Keys.{key_of}
use Rattle.state.specs.declared.fields.Timeouts.{Timeouts}
use Rattle.configuration.specs.declared.new_config.NewSigner.{NewSigner}
use Rattle.configuration.specs.declared.new_config.NewConfig.{NewConfig}
use Rattle.interface.specs.declared.configs.RcTimeout.{RcTimeout}
use Rattle.interface.specs.declared.configs.RcSigner.{RcSigner}
use Rattle.interface.specs.declared.configs.RcConfig.{RcConfig}

-- a number as a flag: yes unless it is 0
abbrev pub is_yes : ℕ → Bool
is_yes n = not (eqb n 0)

unfoldable pub reading_of : RcTimeout → Reading
reading_of t = cond (eqb t.given 0) None (Some t.nanoseconds)

unfoldable pub signer_of : RcSigner → NewSigner
signer_of s =
    record {
      id = record { 0 = s.id };
      has_keys = is_yes s.has_keys;
      keys = record { ids = map key_of s.keys; count = s.key_count };
    }

unfoldable pub timeouts_of : RcConfig → Timeouts
timeouts_of c =
    record {
      dkg_public = reading_of c.dkg_public_timeout;
      dkg_private = reading_of c.dkg_private_timeout;
      dkg_end = reading_of c.dkg_end_timeout;
      nonce = reading_of c.nonce_timeout;
      sign = reading_of c.sign_timeout;
    }

unfoldable pub config_of : RcConfig → NewConfig
config_of c =
    record {
      num_signers = c.num_signers;
      num_keys = c.num_keys;
      threshold = c.threshold;
      dkg_threshold = c.dkg_threshold;
      sign_threshold = c.sign_threshold;
      timeouts = timeouts_of c;
      signers = map signer_of c.signers;
      count = c.signer_count;
      verify_packet_sigs = is_yes c.verify_packet_sigs;
    }
