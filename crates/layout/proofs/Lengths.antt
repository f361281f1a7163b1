-- The lengths of the packets that go out, by the lengths of their lists: kinds 1 and 3, and 32 to 35.
-- Assumes nothing.
use Prim.Native.Nat.{ℕ, ◌+◌, ◌*◌, ◌≤◌}
use mathlib.Core.Path.{◌≡◌}
use mathlib.Core.Bool.{true}
use mathlib.Core.List.{List, map}
use native.Mathlib.Omega.{arith}
use lib.ListN.{length, length-append, length-map}
use Rattle.wire.specs.Bytes.{All}
use Rattle.wire.proofs.Lists.{all_imp, all_map, length-joined-le}
use Rattle.layout.specs.Limits.{message_limit, signer_limit, answer_length}
use Rattle.layout.specs.Messages.{Nonce, NonceRequest, NonceResponse, SignatureShare, SignatureShareRequest, Job, Arrival}
use Rattle.layout.specs.Messages.{nonce_request, signature_share_request}
use Rattle.layout.specs.Encode.{share_bytes, encode_response, header, parts, encode}
use Rattle.layout.specs.Encode.{encode_job, encode_nonce_timeout, encode_insufficient_signers, encode_arrivals}
use Rattle.layout.specs.Decode.{response_within, key_count}
use Rattle.layout.specs.Fits.{NonceFits, ShareFits, ResponseFits}
use Rattle.layout.proofs.Entries.{length-id_bytes, length-clock_bytes, length-nonces}
use Rattle.layout.proofs.Frame.{length-packet}
use Rattle.layout.proofs.Limits.{response-length, shares-length}

-- a response as it may be recorded: its numbers fit, and its lists are within 9's limits
pub record ResponseLimited (q : NonceResponse) : Type 0 where
  pub fits : ResponseFits q
  pub within : response_within q ≡ true

-- at most n of them
pub record ResponsesLimited (n : ℕ) (qs : List NonceResponse) : Type 0 where
  pub count : length qs ≤ n
  pub each : All ResponseLimited qs

-- the key ids, the nonces and the shares of at most n responses: of shares, at most n times 16 with at most n times 16 key ids
pub record NoncesLimited (n : ℕ) (ns : List Nonce) : Type 0 where
  pub count : length ns ≤ n * 16
  pub each : All NonceFits ns

pub record SharesLimited (n : ℕ) (ss : List SignatureShare) : Type 0 where
  pub count : length ss ≤ n * 16
  pub keys : key_count ss ≤ n * 16
  pub each : All ShareFits ss

-- 32 + 2 * 8 + 256 + 32
pub nonce_request-length :
    (r : NonceRequest) → length r.message ≤ message_limit → length r.root ≤ 32 → length (encode (nonce_request r)) ≤ 336
unfolding encode header parts
nonce_request-length r m t = rw length-packet (simp length-append (omega arith))

-- 32 + 2 * 8 + 256 + 32, and 8 + 1432 for each response
pub share_request-length :
    {n : ℕ} (r : SignatureShareRequest) → length r.message ≤ message_limit → length r.root ≤ 32
    → ResponsesLimited n r.nonce_responses → length (encode (signature_share_request r)) ≤ 336 + 1440 * n
unfolding encode header parts
share_request-length r m t a =
    let qs = r.nonce_responses in
    let n : length (map encode_response qs) ≡ length qs = length-map qs encode_response in
    let each = all_imp qs (λ q h. response-length q h.fits h.within) a.each in
    let l = length-joined-le 1432 (map encode_response qs) (all_map (λ s. length s ≤ 1432) encode_response qs each) in
    rw length-packet (simp length-append (omega arith))

-- of 10 responses 32 + 8 * (4 + 160) + 256 + 32 + 160 * 4 + 160 * 66 + 160 * 36 + 160 * 4, which is the answer buffer's length
pub job-length :
    {n : ℕ} (j : Job) → n ≤ signer_limit → length j.message ≤ message_limit → length j.root ≤ 32 → length j.key_ids ≤ n * 16
    → NoncesLimited n j.nonces → SharesLimited n j.signature_shares → length (encode_job j) ≤ answer_length
unfolding encode_job
job-length j few m t k ns ss =
    let count = length-map j.signature_shares share_bytes in
    let nonces = length-nonces j.nonces ns.each in
    let shares = shares-length j.signature_shares ss.each in
    rw length-packet (simp (length-append, length-id_bytes, nonces, shares) (omega arith))

pub nonce_timeout-length :
    (waiters malicious : List ℕ) → length (encode_nonce_timeout waiters malicious) ≡ 48 + 4 * length waiters + 4 * length malicious
unfolding encode_nonce_timeout
nonce_timeout-length waiters malicious = rw length-packet (simp (length-append, length-id_bytes) (omega arith))

pub insufficient-signers-length : (malicious : List ℕ) → length (encode_insufficient_signers malicious) ≡ 40 + 4 * length malicious
unfolding encode_insufficient_signers
insufficient-signers-length malicious = rw length-packet (simp (length-append, length-id_bytes) (omega arith))

pub arrivals-length : (arrivals : List Arrival) → length (encode_arrivals arrivals) ≡ 48 + 12 * length arrivals
unfolding encode_arrivals
arrivals-length arrivals = rw length-packet (simp (length-append, length-id_bytes, length-clock_bytes, length-map) (omega arith))
