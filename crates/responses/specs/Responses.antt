-- 02, a): "a writer for NonceResponse and SignatureShareResponse from plain fields and lists". Numbers are numbers, a nonce is its 66
-- bytes, a z_i its 32; the key ids of all shares are one list, with a count for each share.
use Rattle.std.specs.Prelude.{ℕ, ◌+◌, ◌*◌, Bool, cond, ◌&&◌, List, [], ◌∷◌, eqb, ltb, length, take, drop}
use Rattle.layout.specs.Messages.{SignatureShare, NonceResponse, SignatureShareResponse, Message, nonce_response, signature_share_response}
use Rattle.layout.specs.Encode.{encode}
use Rattle.layout.specs.LaidOut.{whole_entries}
use Rattle.layout.specs.Decode.{nonces_in, within}
use Rattle.framing.specs.Writing.{Writing, written, refused, total}
use Rattle.responses.specs.declared.lists.ResponseHead.{ResponseHead}

-- "Messages and lists above the old limits get 9. It isn't asked 7; it refuses with 26, after 9, where the lent buffer is shorter than the
-- packet." Lists that don't agree say no message: 9 too.
unfoldable pub lending : ℕ → Bool → Message → Writing
lending room agree m =
    cond (agree && within m) (cond (ltb room (length (encode m))) (refused 26) (written (encode m))) (refused 9)

-- NonceResponse
unfoldable pub nonce_response_given : ResponseHead → List ℕ → List ℕ → List ℕ → NonceResponse
nonce_response_given h message key_ids nonces =
    record {
      ids = h.ids;
      signer_id = h.signer_id.0;
      message = message;
      key_ids = key_ids;
      nonces = nonces_in nonces;
    }

unfoldable pub write_nonce_response : ℕ → ResponseHead → List ℕ → List ℕ → List ℕ → Writing
write_nonce_response room h message key_ids nonces =
    lending room (whole_entries 66 nonces) (nonce_response (nonce_response_given h message key_ids nonces))

-- SignatureShareResponse
abbrev pub share_of : ℕ → List ℕ → List ℕ → SignatureShare
share_of id z_i key_ids = record { id = id; z_i = z_i; key_ids = key_ids }

-- each share's id, the next 32 bytes of z_i, and the next key ids, as many as its count says
unfoldable pub shares_given : List ℕ → List ℕ → List ℕ → List ℕ → List SignatureShare
shares_given [] z_i counts key_ids = []
shares_given (id ∷ ids) z_i [] key_ids = []
shares_given (id ∷ ids) z_i (n ∷ counts) key_ids =
    share_of id (take 32 z_i) (take n key_ids) ∷ shares_given ids (drop 32 z_i) counts (drop n key_ids)

-- the bytes of a share of so many key ids
unfoldable pub share_length : ℕ → ℕ
share_length n = 36 + n * 4

-- a z_i and a count for each share, and as many key ids as the counts say
unfoldable pub lists_agree : List ℕ → List ℕ → List ℕ → List ℕ → Bool
lists_agree ids z_i counts key_ids =
    eqb (length z_i) (length ids * 32) && eqb (length counts) (length ids) && eqb (total counts) (length key_ids)

unfoldable pub share_response_given : ResponseHead → List ℕ → List ℕ → List ℕ → List ℕ → SignatureShareResponse
share_response_given h ids z_i counts key_ids =
    record {
      ids = h.ids;
      signer_id = h.signer_id.0;
      signature_shares = shares_given ids z_i counts key_ids;
    }

unfoldable pub write_signature_share_response : ℕ → ResponseHead → List ℕ → List ℕ → List ℕ → List ℕ → Writing
write_signature_share_response room h ids z_i counts key_ids =
    lending room (lists_agree ids z_i counts key_ids) (signature_share_response (share_response_given h ids z_i counts key_ids))
