-- 1, 2 and 3 of the configuration that is given, at the struct.
-- Assumes nothing.
use Rattle.state.specs.Passed.{passed}
use Rattle.std.specs.Prelude.{Err, Ok}
use Prim.Native.Nat.{ℕ, ◌+◌, ◌≤◌}
use mathlib.Core.Path.{◌≡◌, refl, sym, ap, ◌∙◌}
use mathlib.Core.Bool.{Bool, true, false, cond, ◌&&◌}
use mathlib.Core.List.{List, [], ◌∷◌, map}
use native.Mathlib.Omega.{arith}
use borrow.Author.Tests.{leb-true}
use lib.Dec.{leb}
use lib.ListN.{length, length-take, length-map}
use Rattle.wire.specs.Bytes.{every}
use Rattle.wire.proofs.Lists.{and_left}
use Rattle.layout.specs.Limits.{signer_limit}
use Rattle.step_definition.specs.Ids.{distinct}
use Rattle.step_definition.specs.Configuration as D
use Rattle.state.specs.Counts.{sum}
use Rattle.configuration.specs.declared.new_config.NewSigner.{NewSigner}
use Rattle.configuration.specs.declared.new_config.NewConfig.{NewConfig}
use Rattle.configuration.specs.NewConfig.{signer_given, signers_given, new_config_of, new_asked, signer_number, keys_given, set_size, is_set_within, Accepted}

ids_given : (ss : List NewSigner) → map D.config_signer_id (map signer_given ss) ≡ map signer_number ss
ids_given [] = refl
ids_given (s ∷ ss) = ap (λ (ids : List ℕ). s.id.0 ∷ ids) (ids_given ss)

-- 1, at the struct
pub signers_asked : (g : NewConfig) → D.question1 (new_config_of g) ≡ (leb (length (signers_given g)) signer_limit && distinct (map signer_number (signers_given g)))
unfolding D.question1 new_config_of
signers_asked g = rw (length-map, ids_given (signers_given g))

-- 1 answered yes
accepted_few : (g : NewConfig) → length g.signers ≡ 11 → D.question1 (new_config_of g) ≡ true → g.count ≤ signer_limit
accepted_few g l h =
    let m = leb-true (length (signers_given g)) signer_limit (and_left _ (distinct (map signer_number (signers_given g))) (sym (signers_asked g) ∙ h)) in
    omega (arith, rw length-take at m)

sets-each : (f : D.SignerConfig → Bool) (ss : List NewSigner) → ((s : NewSigner) → f (signer_given s) ≡ is_set_within s) → every f (map signer_given ss) ≡ every is_set_within ss
sets-each f [] h = refl
sets-each f (s ∷ ss) h = rw (h s, sets-each f ss h)

pub sets_given : (g : NewConfig) → D.question2 (new_config_of g) ≡ every is_set_within (signers_given g)
unfolding D.question2 new_config_of is_set_within keys_given
sets_given g = sets-each _ (signers_given g) (λ s. refl)

sizes_given : (ss : List NewSigner) → D.set_sizes (map signer_given ss) ≡ sum (map set_size ss)
unfolding D.set_sizes sum keys_given
sizes_given [] = refl
sizes_given (s ∷ ss) = ap (λ (n : ℕ). set_size s + n) (sizes_given ss)

pub total_given : (g : NewConfig) → D.question3 (new_config_of g) ≡ leb (sum (map set_size (signers_given g))) g.num_keys
unfolding D.question3 new_config_of
total_given g = ap (λ (n : ℕ). leb n g.num_keys) (sizes_given (signers_given g))

never : {n : ℕ} {b : Bool} → Err n ≡ passed → b ≡ true
never e = let z : ◌≡◌ {A = ℕ} 0 1 = cc in let f : ⊥ = omega arith in absurd f

all_yes : (a b c : Bool) → cond a (cond b (cond c passed (Err 3)) (Err 2)) (Err 1) ≡ passed → (a ≡ true) × (b ≡ true) × (c ≡ true)
all_yes true true true e = (refl, refl, refl)
all_yes true true false e = (refl, refl, never e)
all_yes true false c e = (refl, never e, never e)
all_yes false b c e = (never e, never e, never e)

-- 1, 2 and 3 answered yes
pub asked_all : (g : D.Config) → new_asked g ≡ (Ok tt) → (D.question1 g ≡ true) × (D.question2 g ≡ true) × (D.question3 g ≡ true)
unfolding new_asked
asked_all g e = all_yes (D.question1 g) (D.question2 g) (D.question3 g) e

pub accepted : (g : NewConfig) → length g.signers ≡ 11 → new_asked (new_config_of g) ≡ (Ok tt) → Accepted g
accepted g l e =
    let y = asked_all (new_config_of g) e in
    record { few = accepted_few g l y.0; sets = rw (sets_given g) at y.1 }
