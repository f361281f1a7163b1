-- What plain numbers stand for, field by field: flags, timeouts, signers and configurations against the step definition's own names.
use Rattle.std.specs.Prelude.{Option, Some, None, ℕ, ◌≡◌, Bool, true, false, map, take}
use Rattle.step_definition.specs.Configuration.{SignerConfig, Config}
use Rattle.configuration.specs.NewConfig.{signer_given}
use Rattle.interface.specs.declared.answers.RcAnswer.{RcAnswer}
use Rattle.interface.specs.declared.configs.RcTimeout.{RcTimeout}
use Rattle.interface.specs.declared.configs.RcSigner.{RcSigner}
use Rattle.interface.specs.declared.configs.RcConfig.{RcConfig}
use Rattle.interface.specs.Configs.{signer_of}

-- a flag: 0 is no, and every other number, 2 as well as 1, is yes
pub record Flag (n : ℕ) (b : Bool) : Type 0 where
  pub no_flag : n ≡ 0 → b ≡ false
  pub yes_flag : (n ≡ 0 → ⊥) → b ≡ true

-- what counts only where its flag is yes
pub record Optional {A : Type 0} (n : ℕ) (value : A) (o : Option A) : Type 0 where
  pub no_flag : n ≡ 0 → o ≡ None
  pub yes_flag : (n ≡ 0 → ⊥) → o ≡ Some value

abbrev pub TimeoutGiven : RcTimeout → Option ℕ → Type 0
TimeoutGiven t o = Optional t.given t.nanoseconds o

-- "A signer may have no key set entry"; the first `key_count` of its keys
pub record SignerGiven (s : RcSigner) (g : SignerConfig) : Type 0 where
  pub id : g.id ≡ s.id
  pub key_ids : Optional s.has_keys (take s.key_count s.keys) g.key_ids

-- the first `signer_count` of the signers; each other field under its own name
pub record ConfigGiven (c : RcConfig) (g : Config) : Type 0 where
  pub num_signers : g.num_signers ≡ c.num_signers
  pub num_keys : g.num_keys ≡ c.num_keys
  pub threshold : g.threshold ≡ c.threshold
  pub dkg_threshold : g.dkg_threshold ≡ c.dkg_threshold
  pub sign_threshold : g.sign_threshold ≡ c.sign_threshold
  pub verify_packet_sigs : Flag c.verify_packet_sigs g.verify_packet_sigs
  pub dkg_public : TimeoutGiven c.dkg_public_timeout g.timeouts.dkg_public
  pub dkg_private : TimeoutGiven c.dkg_private_timeout g.timeouts.dkg_private
  pub dkg_end : TimeoutGiven c.dkg_end_timeout g.timeouts.dkg_end
  pub nonce : TimeoutGiven c.nonce_timeout g.timeouts.nonce
  pub sign : TimeoutGiven c.sign_timeout g.timeouts.sign
  pub signers : g.signers ≡ map (λ (s : RcSigner). signer_given (signer_of s)) (take c.signer_count c.signers)
  pub each_signer : (s : RcSigner) → SignerGiven s (signer_given (signer_of s))

-- an answer that carries no bytes and no mark: its class, its number, and its values
abbrev pub valued : ℕ → ℕ → ℕ → ℕ → ℕ → RcAnswer
valued class number values first second =
    record { class = class; number = number; first = first; second = second; values = values; mark = 0; length = 0 }

-- one that says how many bytes were written, with a job's mark
abbrev pub lengthy : ℕ → ℕ → ℕ → RcAnswer
lengthy class mark length =
    record { class = class; number = 0; first = 0; second = 0; values = 0; mark = mark; length = length }
