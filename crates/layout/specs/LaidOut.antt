-- Question 8: "kind 1 to 7, laid out as below, every list of whole entries (8)?" It is asked of the whole packet, nested packets
-- included.
use Rattle.std.specs.Prelude.{ℕ, zero, suc, ◌+◌, ◌*◌, ◌-◌, ◌%◌, Bool, true, false, cond, ◌&&◌, List, [], ◌∷◌, eqb, leb, length, take, drop}
use Rattle.wire.specs.Bytes.{number_at, every}
use Rattle.layout.specs.declared.Header.{Header}
use Rattle.layout.specs.Types.{root_length}

-- the header in the first 32 bytes
unfoldable pub header_in : List ℕ → Header
header_in s =
    record {
      kind = number_at 1 0 s;
      signature_type = number_at 1 1 s;
      pairs = number_at 2 2 s;
      signer_id = number_at 4 4 s;
      ids = record { dkg_id = number_at 8 8 s; sign_id = number_at 8 16 s; sign_iter_id = number_at 8 24 s };
    }

-- the part whose pair stands at place p: as many bytes as the pair's length says, from its offset on
unfoldable pub part_at : List ℕ → ℕ → List ℕ
part_at s p = take (number_at 4 (p + 4) s) (drop (number_at 4 p s) s)

-- the parts of the n pairs from place p on
unfoldable pub parts_from : List ℕ → ℕ → ℕ → List (List ℕ)
parts_from s p zero = []
parts_from s p (suc n) = part_at s p ∷ parts_from s (p + 8) n

-- the n pairs from place p on name parts that begin at `at`, "each next where the last ended, the last ends the packet"
unfoldable pub tiles : List ℕ → ℕ → ℕ → ℕ → Bool
tiles s p zero at = eqb at (length s)
tiles s p (suc n) at = eqb (number_at 4 p s) at && tiles s (p + 8) n (at + number_at 4 (p + 4) s)

-- one of seven answers, by the kind; the last for any other number
abbrev pub by_kind : {A : Type 0} → ℕ → A → A → A → A → A → A → A → A → A
by_kind k a₁ a₂ a₃ a₄ a₅ a₆ a₇ other =
    cond (eqb k 1) a₁
    (cond (eqb k 2) a₂
    (cond (eqb k 3) a₃
    (cond (eqb k 4) a₄
    (cond (eqb k 5) a₅
    (cond (eqb k 6) a₆
    (cond (eqb k 7) a₇ other))))))

-- a header with nothing but a dkg id and perhaps a signer
unfoldable pub dkg_only : Header → Bool
dkg_only h = eqb h.signature_type 0 && eqb h.pairs 0 && eqb h.ids.sign_id 0 && eqb h.ids.sign_iter_id 0

-- "A kind has the fields of its net.rs struct; those that it lacks are 0", each kind with its pairs; a type is at most 3
unfoldable pub headed : Header → Bool
headed h =
    by_kind h.kind
    (eqb h.signer_id 0 && leb h.signature_type 3 && eqb h.pairs 2)
    (eqb h.signature_type 0 && eqb h.pairs 3)
    (eqb h.signer_id 0 && leb h.signature_type 3 && leb 2 h.pairs)
    (eqb h.signature_type 0)
    (eqb h.signer_id 0 && dkg_only h)
    (dkg_only h)
    (eqb h.signer_id 0 && dkg_only h)
    false

-- a header, in order, and pairs that tile the packet
unfoldable pub framed : List ℕ → Bool
framed s = leb 32 (length s) && headed (header_in s) && tiles s 32 (header_in s).pairs (32 + 8 * (header_in s).pairs)

-- a list of whole entries of w bytes
unfoldable pub whole_entries : ℕ → List ℕ → Bool
whole_entries w s = eqb (length s % w) 0

-- "a part per share (id 4, z_i 32, key ids)"
unfoldable pub whole_share : List ℕ → Bool
whole_share s = leb 36 (length s) && whole_entries 4 (drop 36 s)

-- the lists of a kind 2 packet
unfoldable pub whole_response : List ℕ → Bool
whole_response s = whole_entries 4 (part_at s 40) && whole_entries 66 (part_at s 48)

-- "each response as a whole kind 2 packet"
unfoldable pub response_laid_out : List ℕ → Bool
response_laid_out s = framed s && eqb (header_in s).kind 2 && whole_response s

-- "root (32 bytes for type 3, else 0)"
unfoldable pub whole_root : List ℕ → Bool
whole_root s = eqb (length (part_at s 40)) (root_length (header_in s).signature_type)

-- the lists, the root and the nested packets of each kind
unfoldable pub whole_lists : List ℕ → Bool
whole_lists s =
    by_kind (header_in s).kind
    (whole_root s)
    (whole_response s)
    (whole_root s && every response_laid_out (parts_from s 48 ((header_in s).pairs - 2)))
    (every whole_share (parts_from s 32 (header_in s).pairs))
    true
    true
    true
    false

-- the answer to question 8
unfoldable pub is_laid_out : List ℕ → Bool
is_laid_out s = framed s && whole_lists s
