-- The writers' rounds, by computation.
-- Assumes nothing.
use mathlib.Core.Path.{◌≡◌, refl}
use mathlib.Core.List.{map}
use Rattle.wire.specs.Bytes.{le}
use Rattle.layout.specs.Encode.{header_bytes, table, packet, id_bytes, nonce_bytes, share_bytes, response_parts, header, parts, encode}
use Rattle.layout.specs.LaidOut.{whole_entries}
use Rattle.layout.specs.Decode.{entries, nonce_in, nonces_in, response_within, key_count, within}
use Rattle.framing.specs.Writing.{written, answer, total}
use Rattle.responses.specs.Responses.{lending, nonce_response_given, write_nonce_response, shares_given, lists_agree, share_response_given}
use Rattle.responses.specs.Responses.{write_signature_share_response}
use Rattle.responses.specs.Rounds.{nonce_rounds, writing_nonces, share_rounds, writing_shares, two_given, two_shares, one_share, one_packet}

-- all in one computation
tables : (map writing_nonces nonce_rounds ≡ nonce_rounds) × (map writing_shares share_rounds ≡ share_rounds) × (one_share ≡ written one_packet)
unfolding le header_bytes table packet id_bytes nonce_bytes share_bytes response_parts header parts encode whole_entries entries
    nonce_in nonces_in response_within key_count within answer total lending nonce_response_given write_nonce_response shares_given
    lists_agree share_response_given write_signature_share_response nonce_rounds writing_nonces share_rounds writing_shares
tables = (refl, refl, refl)

pub nonce-rounds : map writing_nonces nonce_rounds ≡ nonce_rounds
nonce-rounds = tables.0

pub share-rounds : map writing_shares share_rounds ≡ share_rounds
share-rounds = tables.1

pub packet-round : one_share ≡ written one_packet
packet-round = tables.2

pub cut_round : two_given ≡ two_shares
unfolding shares_given
cut_round = refl
