-- What plain numbers stand for, field by field.
-- Assumes nothing.
use Prim.Native.Nat.{ℕ}
use mathlib.Core.Path.{◌≡◌, refl, sym, ap, ◌∙◌}
use mathlib.Core.Bool.{true, false}
use mathlib.Core.List.{List, [], ◌∷◌, map, map-map}
use borrow.Author.Tests.{eq-eqb, ne_eqb}
use lib.ListN.{length, take}
use Rattle.validity.specs.Keys.{key_number, key_of}
use Rattle.layout.specs.declared.SignatureType.{SignatureType}
use Rattle.layout.specs.Messages.{NonceResponse, SignatureShareResponse}
use Rattle.step_definition.specs.Coordinator as D
use Rattle.step_definition.specs.Calls as A
use Rattle.step_definition.specs.NonceGather as N
use Rattle.step_definition.specs.SigShareGather as S
use Rattle.state.specs.View.{reading}
use Rattle.state.specs.Turns.{answer_of}
use Rattle.configuration.specs.NewConfig.{numbers_in, signer_given, new_config_of}
use Rattle.configuration.proofs.Walks.{map-take}
use Rattle.interface.specs.declared.answers.RcAnswer.{RcAnswer}
use Rattle.interface.specs.declared.configs.RcTimeout.{RcTimeout}
use Rattle.interface.specs.declared.configs.RcSigner.{RcSigner}
use Rattle.interface.specs.declared.configs.RcConfig.{RcConfig}
use Rattle.interface.specs.Configs.{is_yes, reading_of, signer_of, timeouts_of, config_of}
use Rattle.interface.specs.Answers.{flat}
use Rattle.interface.specs.Fields.{Flag, TimeoutGiven, SignerGiven, ConfigGiven, valued, lengthy}

pub flag : (n : ℕ) → Flag n (is_yes n)
flag n = record { no_flag = λ e. rw (eq-eqb n 0 e); yes_flag = λ e. rw (ne_eqb n 0 e) }

pub timeout_given : (t : RcTimeout) → TimeoutGiven t (reading (reading_of t))
unfolding reading_of
timeout_given t = record { no_flag = λ e. rw (eq-eqb t.given 0 e); yes_flag = λ e. rw (ne_eqb t.given 0 e) }

-- numbers, made key ids and read again
numbers_back : (ns : List ℕ) → map key_number (map key_of ns) ≡ ns
numbers_back [] = refl
numbers_back (n ∷ ns) = rw (numbers_back ns)

pub signer_given_law : (s : RcSigner) → SignerGiven s (signer_given (signer_of s))
unfolding signer_of numbers_in
signer_given_law s =
    record {
      id = refl;
      key_ids =
          record {
            no_flag = λ e. rw (eq-eqb s.has_keys 0 e);
            yes_flag = λ e. rw (ne_eqb s.has_keys 0 e, numbers_back);
          };
    }

-- commissioning is given the configuration that the header names
pub config_given : (c : RcConfig) → ConfigGiven c (new_config_of (config_of c))
unfolding new_config_of config_of timeouts_of
config_given c =
    record {
      num_signers = refl;
      num_keys = refl;
      threshold = refl;
      dkg_threshold = refl;
      sign_threshold = refl;
      verify_packet_sigs = flag c.verify_packet_sigs;
      dkg_public = timeout_given c.dkg_public_timeout;
      dkg_private = timeout_given c.dkg_private_timeout;
      dkg_end = timeout_given c.dkg_end_timeout;
      nonce = timeout_given c.nonce_timeout;
      sign = timeout_given c.sign_timeout;
      signers =
          ap (map signer_given) (sym (map-take signer_of c.signer_count c.signers))
          ∙ map-map signer_given signer_of (take c.signer_count c.signers);
      each_signer = signer_given_law;
    }

-- what C is told of each answer that the step makes
abbrev crossing : A.Answer → RcAnswer
crossing a = flat (answer_of a)

pub quiet_crosses : crossing A.plain ≡ valued 0 0 0 0 0
unfolding flat answer_of
quiet_crosses = refl

pub error_crosses : (n : ℕ) → crossing (A.refusing A.error n []) ≡ valued 4 n 0 0 0
unfolding flat answer_of
error_crosses n = refl

pub failure_crosses : (n : ℕ) → crossing (A.refusing A.result n []) ≡ valued 3 n 0 0 0
unfolding flat answer_of
failure_crosses n = refl

-- 16 to 18 "carry got and expected"; an error of a nonce response, a result of a share response
module _ (now : ℕ) (t : SignatureType) (root : List ℕ) (c : D.Coordinator) (n got expected : ℕ) where
  pub nonces-mismatch-crosses :
      (q : NonceResponse) → crossing (N.on_nonces now t root q c (N.wrong_id n got expected)).answer ≡ valued 4 n 2 got expected
  unfolding flat answer_of N.on_nonces
  nonces-mismatch-crosses q = refl

  pub shares-mismatch-crosses :
      (r : SignatureShareResponse) → crossing (S.on_shares t root r c (S.wrong_id n got expected)).answer ≡ valued 3 n 2 got expected
  unfolding flat answer_of S.on_shares
  shares-mismatch-crosses r = refl

-- "20 to 22 the signer"
pub signer_crosses :
    (t : SignatureType) (root : List ℕ) (c : D.Coordinator) (n : ℕ) (r : SignatureShareResponse)
    → crossing (S.on_shares t root r c (S.refused n)).answer ≡ valued 3 n 1 r.signer_id 0
unfolding flat answer_of S.on_shares
signer_crosses t root c n r = refl

-- the kind of signature, or yes and no
pub value_crosses : (v : ℕ) → crossing (A.telling (v ∷ [])) ≡ valued 3 0 1 v 0
unfolding flat answer_of
value_crosses v = refl

-- a packet goes out; the lists of a timeout are a result; a job, 1 where it is whole
pub packet_crosses : (bytes : List ℕ) → crossing (A.sending A.packet bytes) ≡ lengthy 1 0 (length bytes)
unfolding flat answer_of
packet_crosses bytes = refl

pub lists_cross : (bytes : List ℕ) → crossing (A.sending A.result bytes) ≡ lengthy 3 0 (length bytes)
unfolding flat answer_of
lists_cross bytes = refl

pub job_crosses :
    (bytes : List ℕ)
    → (crossing (A.handing true bytes) ≡ lengthy 2 1 (length bytes))
    × (crossing (A.handing false bytes) ≡ lengthy 2 0 (length bytes))
unfolding flat answer_of
job_crosses bytes = (refl, refl)
