-- What was done with a packet, by the reader's answer.
-- Assumes nothing.
use Rattle.std.specs.Prelude.{Ok, Err}
use Rattle.std.specs.Borrow.{Bor}
use Prim.Native.Nat.{ℕ}
use mathlib.Core.Path.{◌≡◌, refl, sym, ap, ◌∙◌}
use mathlib.Core.Bool.{Bool, true, false, cond}
use mathlib.Core.List.{List}
use native.Mathlib.Omega.{arith}
use borrow.Author.Tests.{leb-true}
use lib.ListN.{length}
use Rattle.layout.specs.Limits.{answer_length}
use Rattle.layout.specs.declared.Header.{Header}
use Rattle.layout.specs.LaidOut.{header_in, is_laid_out}
use Rattle.layout.specs.Decode.{Decoded, taken, refused, decode, message_in, within}
use Rattle.layout.specs.Encode.{header}
use Rattle.packet_in_hand.specs.declared.Packet.{Packet}
use Rattle.packet_in_hand.specs.InHand.{counted, in_hand, opened}
use Rattle.state.specs.declared.answers.Done.{Done}
use Rattle.state.specs.declared.fields.Coordinator.{Coordinator}
use Rattle.state.specs.Turns.{Did, refused_answer, asked}
use Rattle.state.proofs.Turns.{error_did, answered_all}
use Rattle.messages.specs.Messages.{Incoming}
use Rattle.packet_entry.specs.declared.Entry.{Entry}
use Rattle.packet_entry.specs.Entries.{entry_turn}
use Rattle.process.specs.Process.{decoded_turn, read_turn, asking_packet, PacketReady}

-- a packet that is taken
record Took (p : List ℕ) : Type 0 where
  laid_out : is_laid_out p ≡ true
  short : within (message_in p) ≡ true
  decoded : decode p ≡ taken (message_in p)

module _ (b : Bor (List ℕ)) where
  took : (q : Packet) → opened b ≡ Ok q → Took b.now × (q.bytes.now ≡ b.now)
  unfolding opened counted decode
  took q e = by (is_laid_out b.now) refl (within (message_in b.now)) refl e
    where
      by : (l : Bool) → is_laid_out b.now ≡ l → (w : Bool) → within (message_in b.now) ≡ w
          → in_hand b (counted (cond l (cond w (taken (message_in b.now)) (refused 9)) (refused 8))) ≡ Ok q
          → Took b.now × (q.bytes.now ≡ b.now)
      by true l true w e =
          let same : record { bytes = b; pairs = (header (message_in b.now)).pairs } ≡ q = cc in
          (record { laid_out = l; short = w; decoded = rw (l, w) }, sym (ap (λ (x : Packet). x.bytes.now) same))
      by true l false w e = let z : ◌≡◌ {A = ℕ} 0 1 = cc in let f : ⊥ = omega arith in absurd f
      by false l w w' e = let z : ◌≡◌ {A = ℕ} 0 1 = cc in let f : ⊥ = omega arith in absurd f

  refused_by : (n : ℕ) → opened b ≡ Err n → decode b.now ≡ refused n
  unfolding opened counted
  refused_by n e = by (decode b.now) e
    where
      by : (d : Decoded) → in_hand b (counted d) ≡ Err n → d ≡ refused n
      by (taken m) e = let z : ◌≡◌ {A = ℕ} 0 1 = cc in let f : ⊥ = omega arith in absurd f
      by (refused k) e = let same : k ≡ n = cc in ap refused same

  module _ (entry : Entry) (clock : ℕ) (verdict : Bool) (s : Coordinator) (store : List ℕ) {d : Done} {out : List ℕ} where
    pub refused_did : (n : ℕ) → opened b ≡ Err n → d ≡ record { answer = refused_answer n; after = s }
        → Did (read_turn entry clock verdict b.now s store) out d store out
    unfolding decoded_turn
    refused_did n e f = rw (refused_by n e) (error_did store out f)

    pub taken_did :
        (q : Packet) → opened b ≡ Ok q → (store' out' : List ℕ) → Did (entry_turn entry clock verdict b.now s store) out d store' out'
        → Did (read_turn entry clock verdict b.now s store) out d store' out'
    unfolding decoded_turn
    taken_did q e store' out' f = rw (took q e).0.decoded f

  pub incoming :
      {s : Coordinator} {store : List ℕ} {h : Header} {room : ℕ} (q : Packet) → PacketReady s store room → opened b ≡ Ok q
      → h ≡ header_in q.bytes.now → Incoming s store b.now h room
  incoming q r e h_is =
      let t = took q e in
      record { within = r.within; stored = r.stored; laid_out = t.0.laid_out; short = t.0.short; header = h_is ∙ ap header_in t.1; wide = r.wide }

pub ready : (s : Coordinator) (store : List ℕ) (room : ℕ) → asked asking_packet (length store) room s ≡ (Ok tt) → PacketReady s store room
ready s store room e =
    let a = answered_all asking_packet (length store) room s e in
    record { within = a.within; stored = a.stored; wide = leb-true answer_length room a.roomy }
