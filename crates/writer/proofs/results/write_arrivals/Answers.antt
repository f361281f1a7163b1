-- `write_arrivals`: a packet of two columns.
-- Assumes nothing.
use Prim.Native.Nat.{◌*◌}
use mathlib.Core.Path.{◌≡◌, refl, ◌∙◌}
use mathlib.Core.List.{[], ◌∷◌, map}
use native.Mathlib.Omega.{arith}
use lib.ListN.{length, length-map}
use borrow.Author.Tests.{leb-true}
use Rattle.std.proofs.lemmas.Result.{err_from_is_err_and}
use Rattle.layout.specs.Encode.{id_bytes, clock_bytes, arrival_signer, arrival_clock, encode_arrivals}
use Rattle.layout.proofs.Entries.{length-id_bytes, length-clock_bytes}
use Rattle.framing.specs.Writing.{total}
use Rattle.framing.proofs.Laws.{refused_7, refused_9, wrote, put-packet, length-parts}
use Rattle.pieces.specs.Places.{arrival_of, arrivals_of}
use Rattle.pieces.proofs.Given.{arrivals_10}
use Rattle.writer.specs.Columns.{number_bytes}
use Rattle.writer.specs.Results.{write_arrivals}
use Rattle.writer.proofs.Numbers.{length_live}
use Rattle.writer.proofs.results.write_arrivals.Goals as goal

pub returns-in_err-room : goal.returns-in_err-room
unfolding write_arrivals
returns-in_err-room c =
    let p = err_from_is_err_and c.from_residual.result c.from_residual.ensures.1 in
    rw (p.1, p.2, c.in_err-room.ensures.0) (refused_7 _ _ _ c.in_err-room.ensures.1)

pub returns-in_err-limits : goal.returns-in_err-limits
unfolding write_arrivals
returns-in_err-limits c =
    let p = err_from_is_err_and c.from_residual-in_err-limits.result c.from_residual-in_err-limits.ensures.1 in
    rw (p.1, p.2, c.in_err-limits.ensures.0) (refused_9 _ _ _ c.in_ok-room.ensures c.in_err-limits.ensures.1)

pub returns : goal.returns
unfolding write_arrivals encode_arrivals arrivals_of id_bytes clock_bytes number_bytes total
returns c =
    let list = c.args.list in
    let all = arrivals_of list in
    let ten : length list.arrivals ≡ 10 = arrivals_10 list _ c.well_formed.1.0 in
    let few : length all ≡ list.count = length_live arrival_of list.arrivals list.count (omega (arith, leb-true _ _ c.in_ok-limits.ensures)) in
    let s : 4 * list.count ≡ length (id_bytes (map arrival_signer all)) = rw (length-id_bytes, length-map, few) (omega arith) in
    let t : 8 * list.count ≡ length (clock_bytes (map arrival_clock all)) = rw (length-clock_bytes, length-map, few) (omega arith) in
    let short = leb-true _ _ c.in_ok-limits.ensures in
    let first = c.put_result_header-first.ensures in
    let second = c.put-second.ensures in
    let end = c.put-end.ensures in
    wrote _ _ _ c.in_ok-room.ensures c.in_ok-limits.ensures _ _ (length-parts _ (_ ∷ (_ ∷ [])) ∙ omega arith)
    (omega arith)
    (rw (
      c.put_column-2.ensures,
      c.put_column.ensures,
      end.2,
      second.2,
      second.0,
      second.1,
      first.0,
      first.1,
      first.2,
      s,
      t,
    ) (put-packet _ _ (_ ∷ (_ ∷ [])) 48 refl))
