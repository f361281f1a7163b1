-- Demand 3, second half: after an opening call, over every list without start, reset or commissioning, the group key held throughout, the
-- first share request leaves at exactly the call that the log names, with exactly the log's entries for that message; where it names
-- none, none leaves.
-- Assumes nothing.
use Rattle.std.proofs.lemmas.Option.{none-some}
use Prim.Native.Nat.{ℕ}
use mathlib.Core.Path.{◌≡◌, refl, sym, ap, ◌∙◌}
use mathlib.Core.Bool.{Bool, true, false, cond}
use mathlib.Core.List.{List, [], ◌∷◌, map}
use Rattle.std.specs.Prelude.{Option, Some, None}
use Rattle.wire.specs.Bytes.{All}
use Rattle.wire.proofs.Lists.{all_imp}
use Rattle.layout.specs.Messages.{NonceRequest, NonceResponse, SignatureShareRequest}
use Rattle.step_definition.specs.Coordinator.{Coordinator, Held, commissioned}
use Rattle.step_definition.specs.Calls.{Call, brought}
use Rattle.step_definition.specs.Demand3.{Opens, opened_by, Plain, first_share_request, page_of, FromSigner, Authentic}
use Rattle.step_definition.specs.ResponseLog.{Opened, Page, ResponseLog, empty, enter, entries_for, logged, log_after, completes, share_request_for, Place, or_later, first_named}
use Rattle.step_definition.specs.Run.{final}
use Rattle.step_definition.proofs.Cases.{cond_case}
use Rattle.step_definition.proofs.Entries.{GoodPages, GoodEntry, nothing_entered, is_entered, entry_good, enter_good, entries_good, logged_good, log_good}
use Rattle.step_definition.proofs.Following.{gathered, RecordsFollow, from-opening}

-- the call and its share request are those that the log names
pub next_share_request :
    (k : Call) (h : Held) (r : NonceRequest) (c : Coordinator) → Opens k h r c → (ks : List Call) → Plain ks (commissioned c)
    → first_share_request ks (commissioned c) ≡ first_named (opened_by k r c) (empty (opened_by k r c)) ks
next_share_request k h r c o ks p = (from-opening k h r c o ks p).0

-- up to that call the log's entries are the coordinator's records, message by message, signer by signer
pub record RecordsLogged (h : Held) (l : ResponseLog) : Type 0 where
  pub coordinator : Coordinator
  pub holds : h ≡ commissioned coordinator
  pub records : map page_of coordinator.round.message_nonces ≡ l.pages
  pub keys : coordinator.standing.keys ≡ l.keys

pub log_is_records :
    (k : Call) (h : Held) (r : NonceRequest) (c : Coordinator) → Opens k h r c → (ks : List Call) → Plain ks (commissioned c)
    → first_share_request ks (commissioned c) ≡ None
    → RecordsLogged (final ks (commissioned c)) (log_after (opened_by k r c) (empty (opened_by k r c)) ks)
log_is_records k h r c o ks p e =
    let w : RecordsFollow (opened_by k r c) c.round.signature_shares c.round.clocks.sign_start _ _ =
    (from-opening k h r c o ks p).1 e in
    record {
      coordinator = gathered (opened_by k r c) c.round.signature_shares c.round.clocks.sign_start w.0 w.1;
      holds = w.2;
      records = ap (λ (l : ResponseLog). l.pages) (sym w.3);
      keys = ap (λ (l : ResponseLog). l.keys) (sym w.3);
    }

-- The share request that the log names, and so the one that leaves, is as demand 3's last clause says.
module _ (o : Opened) where
  data Vouched : Option SignatureShareRequest → Type 0 where
    unnamed : Vouched None
    named : {r : SignatureShareRequest} → Authentic o.standing o.request.ids r → Vouched (Some r)

  named_branch : {t : Bool} {a b : Option SignatureShareRequest} → (t ≡ true → Vouched a) → (t ≡ false → Vouched b) → Vouched (cond t a b)
  named_branch {t = t} = cond_case Vouched t

  request-authentic :
      (m : List ℕ) (ps : List Page) → GoodPages o ps → Authentic o.standing o.request.ids (share_request_for o m (entries_for m ps))
  unfolding share_request_for
  request-authentic m ps g = let p = entries_good o m ps g in record { ids = refl; responses = p.entries; signers = p.signers }

  completes_vouched : (ps : List Page) {q : Option NonceResponse} → GoodPages o ps → GoodEntry o q → Vouched (completes o ps q)
  unfolding completes
  completes_vouched ps g nothing_entered = unnamed
  completes_vouched ps g (is_entered {q = q} s) =
      let a = request-authentic q.message (enter q ps) (enter_good o q ps s g) in search (named_branch, unnamed, named)

  data VouchedPlace : Option Place → Type 0 where
    nowhere : VouchedPlace None
    somewhere : {p : Place} → Authentic o.standing o.request.ids p.request → VouchedPlace (Some p)

  later_vouched : {n : Option SignatureShareRequest} {rest : Option Place} → Vouched n → VouchedPlace rest → VouchedPlace (or_later n rest)
  unfolding or_later
  later_vouched (named a) v = somewhere a
  later_vouched unnamed nowhere = nowhere
  later_vouched unnamed (somewhere a) = somewhere a

  first_vouched : (ks : List Call) (l : ResponseLog) → GoodPages o l.pages → VouchedPlace (first_named o l ks)
  unfolding first_named
  first_vouched [] l g = nowhere
  first_vouched (k ∷ ks) l g =
      later_vouched (completes_vouched l.pages g (entry_good o l k (brought k.request)))
      (first_vouched ks (logged o l k) (logged_good o l k g))

  vouched_at : {x : Option Place} (p : Place) → VouchedPlace x → x ≡ Some p → Authentic o.standing o.request.ids p.request
  vouched_at p nowhere e = absurd (none-some p e)
  vouched_at p (somewhere {p = q} a) e = let s : q ≡ p = cc in rw (← s) a

-- "each from a configured, key-generated, unstruck signer with its exact key set and this request's ids", signers ascending, each once
pub share_request_authentic :
    (k : Call) (h : Held) (r : NonceRequest) (c : Coordinator) → Opens k h r c → (ks : List Call) → Plain ks (commissioned c)
    → (p : Place) → first_share_request ks (commissioned c) ≡ Some p → Authentic c.standing r.ids p.request
unfolding opened_by empty
share_request_authentic k h r c o ks p at e =
    vouched_at (opened_by k r c) at (first_vouched (opened_by k r c) ks (empty (opened_by k r c)) tt)
    (sym (next_share_request k h r c o ks p) ∙ e)

-- and so is each entry of the log
pub entries_authentic :
    (o : Opened) (ks : List Call)
    → All (λ (p : Page). All (FromSigner o.standing o.request.ids) p.entries) (log_after o (empty o) ks).pages
unfolding empty
entries_authentic o ks = all_imp (log_after o (empty o) ks).pages (λ p g. g.entries) (log_good o ks (empty o) tt)
