-- The arrays of a struct that is loaded have their lengths, and its numbers are of their types, whatever the bytes.
-- Assumes nothing.
use Prim.Native.Nat.{ℕ, zero, suc, ◌+◌}
use mathlib.Core.Path.{◌≡◌, refl, ap, ◌∙◌}
use mathlib.Core.Bool.{Bool, true, false}
use mathlib.Core.List.{List}
use native.Mathlib.Omega.{arith}
use lib.ListN.{length, replicate, length-replicate, length-map}
use mir.Val.{Val}
use denote.Laws.{Is}
use Rattle.wire.specs.Bytes.{All, Bytes}
use Rattle.wire.proofs.Buffer.{length-put}
use Rattle.wire.proofs.Numbers.{number_at_lt}
use Rattle.layout.specs.Types.{root_length}
use Rattle.layout.specs.Fits.{IdsFit}
use Rattle.form.specs.Form.{bytes_at, each_at, pieces}
use Rattle.form.proofs.Lawful.{bytes-long}
use Rattle.state_bytes.specs.Description.{ids_form, position_form, message_form, coordinator_form, description}
use Rattle.state_bytes.specs.Saved.{state_length}
use Rattle.state_bytes.specs.Loaded.{state_at, is_saved, loaded}
use Rattle.interface.specs.declared.configs.RcConfig.{RcConfig}
use Rattle.interface.specs.Configs.{config_of}
use Rattle.interface.specs.contracts.configs.RcConfig as RcConfig-row
use Rattle.library_start.specs.Given.{root_given}
use Rattle.coordinator_theorems.specs.Host.{Formed, GivenArrays}
use Rattle.coordinator_theorems.specs.Demand3.{Fits}
use Rattle.library_theorems.specs.Library.{LibraryRequest, commission, set_key, take_results, start_signing_round, receive}
use Rattle.library_theorems.specs.Library.{process_timeout, aggregated, reset, tell_arrivals, can_move_to}
use Rattle.library_theorems.specs.Library.{request_of, commissions}

module _ {A : Type 0} (f : List ℕ → ℕ → A) (w : ℕ) (s : List ℕ) where
  length_each_at : (at n : ℕ) → length (each_at f w s at n) ≡ n
  unfolding each_at
  length_each_at at zero = refl
  length_each_at at (suc n) = ap suc (length_each_at (at + w) n)

  all_each_at : (P : A → Type 0) → ((at : ℕ) → P (f s at)) → (at n : ℕ) → All P (each_at f w s at n)
  unfolding each_at
  all_each_at P h at zero = tt
  all_each_at P h at (suc n) = (h at, all_each_at P h (at + w) n)

formed_at : (s : List ℕ) → Formed (state_at s)
unfolding state_at description
formed_at s =
    record {
      signers = length_each_at _ _ s _ _;
      rows = length_each_at _ _ s _ _;
      slots = all_each_at _ _ s _ (λ at. length_each_at _ _ s _ _) _ _;
      shares = length_each_at _ _ s _ _;
      bytes = bytes-long s _ _;
      root = bytes-long s _ _;
    }

pub loaded-formed : (b : List ℕ) → Formed (loaded b)
unfolding loaded
loaded-formed b = by (is_saved b) refl
  where
    by : (y : Bool) → is_saved b ≡ y → Formed (loaded b)
    by true e = rw e (formed_at b)
    by false e = rw e (formed_at (replicate state_length 0))

bytes-said : (s : List ℕ) → Bytes s → (at n : ℕ) → Bytes (bytes_at s at n)
unfolding bytes_at
bytes-said s b at zero i = omega arith
bytes-said s b at (suc n) zero = b at
bytes-said s b at (suc n) (suc i) = bytes-said s b (at + 1) n i

ids-said : (s : List ℕ) → Bytes s → (at : ℕ) → IdsFit (ids_form.load s at)
unfolding ids_form pieces
ids-said s b at =
    record {
      dkg_id = number_at_lt 8 at s b;
      sign_id = number_at_lt 8 (at + 8) s b;
      sign_iter_id = number_at_lt 8 (at + 16) s b;
    }

fits_at : (s : List ℕ) → Bytes s → Fits (state_at s)
unfolding state_at coordinator_form pieces position_form message_form
fits_at s b =
    record {
      ids = ids-said s b _;
      message = bytes-said s b _ _;
      root = bytes-said s b _ _;
    }

zeros_bytes : (n : ℕ) → Bytes (replicate n 0)
zeros_bytes zero i = omega arith
zeros_bytes (suc n) zero = omega arith
zeros_bytes (suc n) (suc i) = zeros_bytes n i

pub loaded-fits : (b : List ℕ) → Bytes b → Fits (loaded b)
unfolding loaded
loaded-fits b bytes = by (is_saved b) refl
  where
    by : (y : Bool) → is_saved b ≡ y → Fits (loaded b)
    by true e = rw e (fits_at b bytes)
    by false e = rw e (fits_at (replicate state_length 0) (zeros_bytes state_length))

-- What `Made` asks of a request's arrays holds of every configuration of its type, and of every other request.
root_given-length : (root : List ℕ) → length (root_given root) ≡ 32
unfolding root_given root_length
root_given-length root = length-put (replicate 32 0) 0 root ∙ length-replicate {A = ℕ} 32 0

pub config-arrays : (g : RcConfig) (vs : List Val) → Is RcConfig-row.the_row g vs → GivenArrays (request_of (commission g))
unfolding request_of config_of
config-arrays g vs h =
    let n : length g.signers ≡ 11 = h.1.1.1.1.1.1.1.1.1.1.1.1.1.1.0.1.0.1 in
    rw (length-map, n)

pub other_arrays : (q : LibraryRequest) → commissions q ≡ false → GivenArrays (request_of q)
unfolding request_of
other_arrays (commission g) e = let z : ◌≡◌ {A = ℕ} 0 1 = cc in let f : ⊥ = omega arith in absurd f
other_arrays (set_key which held) e = tt
other_arrays (take_results dkg ended) e = tt
other_arrays (start_signing_round m t root given id) e = root_given-length root
other_arrays (receive entry p) e = tt
other_arrays process_timeout e = tt
other_arrays (aggregated ok) e = tt
other_arrays reset e = tt
other_arrays tell_arrivals e = tt
other_arrays (can_move_to next t root) e = root_given-length root
