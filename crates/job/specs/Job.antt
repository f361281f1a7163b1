-- "32 job (message, root, key ids, nonces, a part per share)"; "lists are each signer's list, joined in ascending signer id". The
-- caller gives the signers in that order.
use Rattle.std.specs.Prelude.{ℕ, ◌+◌, ◌*◌, Bool, ◌&&◌, List, [], ◌∷◌, ◌++◌, map, leb, length, take, drop}
use Rattle.wire.specs.Bytes.{number_at, every}
use Rattle.layout.specs.Messages.{Nonce, SignatureShare, Job}
use Rattle.layout.specs.Encode.{encode_job}
use Rattle.layout.specs.Decode.{ids_in, nonces_in}
use Rattle.layout.specs.Limits.{message_limit, list_limit, signer_limit}
use Rattle.body.specs.declared.RequestHead.{RequestHead}
use Rattle.pieces.specs.declared.places.Place.{Place}
use Rattle.framing.specs.Writing.{Writing, writing, total}
use Rattle.body.specs.Body.{root_of}
use Rattle.pieces.specs.Places.{bytes_at, holds}
use Rattle.job.specs.declared.JobPlace.{JobPlace}
use Rattle.job.specs.declared.JobPlaces.{JobPlaces}
use Rattle.job.specs.declared.JobList.{JobList}
use Rattle.job.specs.declared.JobList.TheVariants.{KeyIds, Nonces}

-- the key ids of each share, counted
unfoldable pub key_counts : JobPlace → List ℕ
key_counts p = take p.shares.count p.share_key_counts

-- the shares' key ids lie one after the other
unfoldable pub share_keys_of : JobPlace → Place
share_keys_of p = record { at = p.share_keys_at; count = total (key_counts p) }

-- question 9 of a signer's lists: at most 16 key ids, 16 nonces, 16 shares with 16 key ids in all; each in the source
unfoldable pub job_holds : ℕ → JobPlace → Bool
job_holds size p =
    holds size 4 list_limit p.key_ids && holds size 66 list_limit p.nonces && holds size 36 list_limit p.shares
    && holds size 4 list_limit (share_keys_of p)

-- the signers that count
unfoldable pub signers_in : JobPlaces → List JobPlace
signers_in ps = take ps.count ps.places

unfoldable pub jobs_hold : ℕ → JobPlaces → Bool
jobs_hold size ps = leb ps.count signer_limit && every (job_holds size) (signers_in ps)

-- shares: id and z_i in 36 bytes at `at`, so many key ids at `keys`
unfoldable pub shares_from : List ℕ → ℕ → ℕ → List ℕ → List SignatureShare
shares_from source at keys [] = []
shares_from source at keys (n ∷ ns) =
    record { id = number_at 4 at source; z_i = take 32 (drop (at + 4) source); key_ids = ids_in (take (n * 4) (drop keys source)) }
    ∷ shares_from source (at + 36) (keys + n * 4) ns

unfoldable pub shares_at_place : List ℕ → JobPlace → List SignatureShare
shares_at_place source p = shares_from source p.shares.at p.share_keys_at (key_counts p)

-- each signer's list, joined
unfoldable pub keys_of : List ℕ → List JobPlace → List ℕ
keys_of source [] = []
keys_of source (p ∷ ps) = ids_in (bytes_at 4 p.key_ids source) ++ keys_of source ps

unfoldable pub nonces_of : List ℕ → List JobPlace → List Nonce
nonces_of source [] = []
nonces_of source (p ∷ ps) = nonces_in (bytes_at 66 p.nonces source) ++ nonces_of source ps

unfoldable pub shares_of : List ℕ → List JobPlace → List SignatureShare
shares_of source [] = []
shares_of source (p ∷ ps) = shares_at_place source p ++ shares_of source ps

unfoldable pub job_of : RequestHead → List ℕ → List ℕ → JobPlaces → Job
job_of h message source ps =
    record {
      ids = h.ids;
      message = message;
      signature_type = h.signature_type;
      root = root_of h;
      key_ids = keys_of source (signers_in ps);
      nonces = nonces_of source (signers_in ps);
      signature_shares = shares_of source (signers_in ps);
    }

unfoldable pub write_job : ℕ → RequestHead → List ℕ → List ℕ → JobPlaces → Writing
write_job room h message source ps =
    writing room (leb (length message) message_limit && jobs_hold (length source) ps) (encode_job (job_of h message source ps))

-- the same lists as bytes, for the code: a list of a signer, its entries' width, its length and its bytes; the length of each share's part
abbrev pub list_of : JobList → JobPlace → Place
list_of KeyIds p = p.key_ids
list_of Nonces p = p.nonces

abbrev pub width : JobList → ℕ
width KeyIds = 4
width Nonces = 66

abbrev pub list_length : JobList → JobPlace → ℕ
list_length list p = (list_of list p).count * width list

abbrev pub list_bytes : JobList → List ℕ → JobPlace → List ℕ
list_bytes list source p = bytes_at (width list) (list_of list p) source

abbrev pub share_length : ℕ → ℕ
share_length n = 36 + n * 4

unfoldable pub share_lengths : JobPlace → List ℕ
share_lengths p = map share_length (key_counts p)
