-- What a packet says has the packet's parts, and fits.
-- Assumes nothing.
use Prim.Native.Nat.{ℕ, suc, ◌-◌}
use mathlib.Core.Path.{◌≡◌, sym, ap, ◌∙◌}
use mathlib.Core.Bool.{Bool, true}
use mathlib.Core.List.{List, map}
use native.Mathlib.Omega.{arith}
use borrow.Author.Tests.{eqb-true}
use Rattle.wire.specs.Bytes.{Bytes, every, All}
use Rattle.wire.proofs.Lists.{every_all, all_both, all_imp, all_map, map_back}
use Rattle.layout.specs.Types.{type_number, type_of, root_length}
use Rattle.layout.specs.Messages.{Message}
use Rattle.layout.specs.Encode.{share_bytes, encode_response, parts}
use Rattle.layout.specs.LaidOut.{header_in, part_at, parts_from, whole_share, response_laid_out, whole_root, is_laid_out}
use Rattle.layout.specs.Decode.{share_in, response_in, request_in, share_request_in, share_response_in, message_in}
use Rattle.layout.specs.Fits.{Sized, ShareFits, ResponseFits, Fits}
use Rattle.layout.proofs.Entries.{share_bytes_share_in, fits_share_in}
use Rattle.layout.proofs.Headed.{Asks, type_number-type_of, laid-out-cases}
use Rattle.layout.proofs.Frame.{header_in-fits, bytes-part_at, bytes-parts_from}
use Rattle.layout.proofs.Response.{the_response_parts, response_fits, encode_response_in, fits_response_in}

pub record Said (s : List ℕ) (m : Message) : Type 0 where
  pub parts : parts m ≡ parts_from s 32 (header_in s).pairs
  pub fits : Fits m

module _ (s : List ℕ) (b : Bytes s) where
  -- n parts that pass a test are what a code says of them, and fit
  module _ {A : Type 0} (Good : A → Type 0) (test : List ℕ → Bool) (enc : A → List ℕ) (dec : List ℕ → A) (p n : ℕ) (t : every test (parts_from s p n) ≡ true) where
    each : All (λ (q : List ℕ). Bytes q × (test q ≡ true)) (parts_from s p n)
    each = all_both Bytes _ (parts_from s p n) (bytes-parts_from s b p n) (every_all test (parts_from s p n) t)

    parts_back : ((q : List ℕ) → Bytes q → test q ≡ true → enc (dec q) ≡ q) → map enc (map dec (parts_from s p n)) ≡ parts_from s p n
    parts_back back = map_back dec enc (parts_from s p n) (all_imp (parts_from s p n) (λ q h. back q h.0 h.1) each)

    parts_good : ((q : List ℕ) → Bytes q → test q ≡ true → Good (dec q)) → All Good (map dec (parts_from s p n))
    parts_good good = all_map Good dec (parts_from s p n) (all_imp (parts_from s p n) (λ q h. good q h.0 h.1) each)

  root_sized : Asks (header_in s) → whole_root s ≡ true → Sized (root_length (type_number (type_of (header_in s).signature_type))) (part_at s 40)
  unfolding whole_root
  root_sized a w = record { bytes = bytes-part_at s b 40; size = rw (type_number-type_of (header_in s).signature_type a.type) (eqb-true _ _ w) }

  pub said : is_laid_out s ≡ true → Said s (message_in s)
  unfolding parts parts_from request_in response_in share_request_in share_response_in
  said l =
      let f = header_in-fits s b in
      let n = (header_in s).pairs in
      let count : (k : ℕ) → n ≡ k → parts_from s 32 k ≡ parts_from s 32 n = λ k e. ap (λ (c : ℕ). parts_from s 32 c) (sym e) in
      laid-out-cases s (Said s) l
      (λ k a p w. record { parts = count 2 p; fits = record { ids = f.ids; message = bytes-part_at s b 32; root = root_sized a w } })
      (λ k t p w. record { parts = the_response_parts s b w ∙ count 3 p; fits = response_fits s b w })
      (λ k a p w ws. record {
        parts = rw (parts_back ResponseFits response_laid_out encode_response response_in 48 (n - 2) ws encode_response_in) (count (suc (suc (n - 2))) (omega arith));
        fits = record { ids = f.ids; message = bytes-part_at s b 32; root = root_sized a w; nonce_responses = parts_good ResponseFits response_laid_out encode_response response_in 48 (n - 2) ws fits_response_in };
      })
      (λ k t ws. record {
        parts = parts_back ShareFits whole_share share_bytes share_in 32 n ws share_bytes_share_in;
        fits = record { ids = f.ids; signer_id = f.signer_id; signature_shares = parts_good ShareFits whole_share share_bytes share_in 32 n ws fits_share_in };
      })
      (λ k g d. record { parts = count 0 d.pairs; fits = f.ids.dkg_id })
      (λ k d. record { parts = count 0 d.pairs; fits = (f.signer_id, f.ids.dkg_id) })
      (λ k g d. record { parts = count 0 d.pairs; fits = f.ids.dkg_id })
