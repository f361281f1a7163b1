-- Rounds for a signer's writers: what each is given, and what it answers; and one packet, byte by byte.
use Rattle.std.specs.Prelude.{Err, Ok, ℕ, List, [], ◌∷◌, ◌++◌, replicate}
use Rattle.layout.specs.Messages.{SignatureShare}
use Rattle.framing.specs.Writing.{Writing, answer, Written}
use Rattle.responses.specs.declared.lists.ResponseHead.{ResponseHead}
use Rattle.responses.specs.Responses.{write_nonce_response, share_of, shares_given, write_signature_share_response}
use Rattle.responses.specs.ReadBack.{sender_of}

-- signer 1, dkg 2, sign 3, iteration 4
abbrev pub signer1 : ResponseHead
signer1 = sender_of 1 (record { dkg_id = 2; sign_id = 3; sign_iter_id = 4 })

-- the buffer's length, the message's, the key ids, how many bytes of nonces, and the answer
pub record NonceRound : Type 0 where
  pub room : ℕ
  pub message : ℕ
  pub key_ids : List ℕ
  pub nonces : ℕ
  pub told : Written

abbrev pub nonces : ℕ → ℕ → List ℕ → ℕ → Written → NonceRound
nonces room message key_ids count told = record { room = room; message = message; key_ids = key_ids; nonces = count; told = told }

unfoldable pub writing_nonces : NonceRound → NonceRound
writing_nonces r =
    let w = write_nonce_response r.room signer1 (replicate r.message 97) r.key_ids (replicate r.nonces 2) in
    nonces r.room r.message r.key_ids r.nonces (answer w)

unfoldable pub nonce_rounds : List NonceRound
nonce_rounds =
    -- message "a", keys 2 and 3, two nonces: an exact fit, a byte less, a byte more
    nonces 197 1 (2 ∷ 3 ∷ []) 132 (Ok 197)
    ∷ nonces 196 1 (2 ∷ 3 ∷ []) 132 (Err 26)
    ∷ nonces 198 1 (2 ∷ 3 ∷ []) 132 (Ok 197)
    -- 9 before 26
    ∷ nonces 0 257 [] 0 (Err 9)
    ∷ nonces 0 256 [] 0 (Err 26)
    -- the largest packet, and one more of each
    ∷ nonces 1432 256 (replicate 16 7) 1056 (Ok 1432)
    ∷ nonces 1431 256 (replicate 16 7) 1056 (Err 26)
    ∷ nonces 2000 257 (replicate 16 7) 1056 (Err 9)
    ∷ nonces 2000 256 (replicate 17 7) 1056 (Err 9)
    ∷ nonces 2000 256 (replicate 16 7) 1122 (Err 9)
    -- nonces that are no whole entries
    ∷ nonces 2000 1 (2 ∷ 3 ∷ []) 131 (Err 9)
    ∷ nonces 2000 1 (2 ∷ 3 ∷ []) 133 (Err 9)
    ∷ nonces 2000 1 (2 ∷ 3 ∷ []) 99 (Err 9)
    -- nothing at all, and a nonce more than there are keys
    ∷ nonces 56 0 [] 0 (Ok 56)
    ∷ nonces 55 0 [] 0 (Err 26)
    ∷ nonces 122 0 [] 66 (Ok 122)
    ∷ []

-- the buffer's length, the shares' ids, how many bytes of z_i, the counts, the key ids, and the answer
pub record ShareRound : Type 0 where
  pub room : ℕ
  pub ids : List ℕ
  pub z_i : ℕ
  pub counts : List ℕ
  pub key_ids : List ℕ
  pub told : Written

abbrev pub shares : ℕ → List ℕ → ℕ → List ℕ → List ℕ → Written → ShareRound
shares room ids z_i counts key_ids told = record { room = room; ids = ids; z_i = z_i; counts = counts; key_ids = key_ids; told = told }

unfoldable pub writing_shares : ShareRound → ShareRound
writing_shares r =
    let w = write_signature_share_response r.room signer1 r.ids (replicate r.z_i 5) r.counts r.key_ids in
    shares r.room r.ids r.z_i r.counts r.key_ids (answer w)

unfoldable pub share_rounds : List ShareRound
share_rounds =
    -- no shares
    shares 32 [] 0 [] [] (Ok 32)
    ∷ shares 31 [] 0 [] [] (Err 26)
    -- one share of keys 2 and 3
    ∷ shares 84 (2 ∷ []) 32 (2 ∷ []) (2 ∷ 3 ∷ []) (Ok 84)
    ∷ shares 83 (2 ∷ []) 32 (2 ∷ []) (2 ∷ 3 ∷ []) (Err 26)
    -- the largest packet, by 16 shares of a key each and by 16 of which one has all keys
    ∷ shares 800 (replicate 16 1) 512 (replicate 16 1) (replicate 16 7) (Ok 800)
    ∷ shares 799 (replicate 16 1) 512 (replicate 16 1) (replicate 16 7) (Err 26)
    ∷ shares 800 (replicate 16 1) 512 (16 ∷ replicate 15 0) (replicate 16 7) (Ok 800)
    -- 17 shares, 17 keys of one share, 17 keys over two
    ∷ shares 2000 (replicate 17 1) 544 (replicate 17 0) [] (Err 9)
    ∷ shares 2000 (1 ∷ []) 32 (17 ∷ []) (replicate 17 7) (Err 9)
    ∷ shares 2000 (1 ∷ 2 ∷ []) 64 (8 ∷ 9 ∷ []) (replicate 17 7) (Err 9)
    -- lists that do not agree: z_i, counts, and the counts' sum
    ∷ shares 0 (1 ∷ []) 31 (1 ∷ []) (7 ∷ []) (Err 9)
    ∷ shares 0 (1 ∷ []) 64 (1 ∷ []) (7 ∷ []) (Err 9)
    ∷ shares 0 (1 ∷ []) 32 [] [] (Err 9)
    ∷ shares 0 (1 ∷ []) 32 (1 ∷ 0 ∷ []) (7 ∷ []) (Err 9)
    ∷ shares 0 (1 ∷ []) 32 (2 ∷ []) (7 ∷ []) (Err 9)
    ∷ shares 0 (1 ∷ []) 32 (0 ∷ []) (7 ∷ []) (Err 9)
    ∷ []

-- two shares cut from the four lists: each has its own z_i and its own keys
abbrev pub two_given : List SignatureShare
two_given = shares_given (5 ∷ 6 ∷ []) (replicate 32 1 ++ replicate 32 2) (1 ∷ 2 ∷ []) (7 ∷ 8 ∷ 9 ∷ [])

abbrev pub two_shares : List SignatureShare
two_shares = share_of 5 (replicate 32 1) (7 ∷ []) ∷ share_of 6 (replicate 32 2) (8 ∷ 9 ∷ []) ∷ []

-- one share, of id 5 and keys 2 and 300, and its packet
abbrev pub one_share : Writing
one_share =
    write_signature_share_response 84 signer1 (5 ∷ [])
    (11 ∷ 12 ∷ 13 ∷ 14 ∷ 15 ∷ 16 ∷ 17 ∷ 18 ∷ 19 ∷ 20 ∷ 21 ∷ 22 ∷ 23 ∷ 24 ∷ 25 ∷ 26
    ∷ 27 ∷ 28 ∷ 29 ∷ 30 ∷ 31 ∷ 32 ∷ 33 ∷ 34 ∷ 35 ∷ 36 ∷ 37 ∷ 38 ∷ 39 ∷ 40 ∷ 41 ∷ 42 ∷ [])
    (2 ∷ []) (2 ∷ 300 ∷ [])

abbrev pub one_packet : List ℕ
one_packet =
    -- kind, signature type, one pair, signer
    4 ∷ 0 ∷ 1 ∷ 0 ∷ 1 ∷ 0 ∷ 0 ∷ 0
    -- dkg id, sign id, iteration
    ∷ 2 ∷ 0 ∷ 0 ∷ 0 ∷ 0 ∷ 0 ∷ 0 ∷ 0
    ∷ 3 ∷ 0 ∷ 0 ∷ 0 ∷ 0 ∷ 0 ∷ 0 ∷ 0
    ∷ 4 ∷ 0 ∷ 0 ∷ 0 ∷ 0 ∷ 0 ∷ 0 ∷ 0
    -- the pair: from 40 on, 44 bytes
    ∷ 40 ∷ 0 ∷ 0 ∷ 0 ∷ 44 ∷ 0 ∷ 0 ∷ 0
    -- the share's id, its z_i, its key ids
    ∷ 5 ∷ 0 ∷ 0 ∷ 0
    ∷ 11 ∷ 12 ∷ 13 ∷ 14 ∷ 15 ∷ 16 ∷ 17 ∷ 18 ∷ 19 ∷ 20 ∷ 21 ∷ 22 ∷ 23 ∷ 24 ∷ 25 ∷ 26
    ∷ 27 ∷ 28 ∷ 29 ∷ 30 ∷ 31 ∷ 32 ∷ 33 ∷ 34 ∷ 35 ∷ 36 ∷ 37 ∷ 38 ∷ 39 ∷ 40 ∷ 41 ∷ 42
    ∷ 2 ∷ 0 ∷ 0 ∷ 0 ∷ 44 ∷ 1 ∷ 0 ∷ 0
    ∷ []
