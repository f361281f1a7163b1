-- The log's entries: each is from a signer as demand 3 says, they are the coordinator's records, and their different keys are those of the
-- signers' key sets.
-- Assumes nothing.
use Prim.Native.Nat.{ℕ}
use mathlib.Core.Path.{◌≡◌, refl, sym, ap}
use mathlib.Core.Bool.{Bool, true, false, cond, false≢true}
use mathlib.Core.List.{List, [], ◌∷◌, map}
use Rattle.std.specs.Prelude.{Option, Some, None}
use lib.ListN.{length}
use borrow.Author.Tests.{eqb-true, not-true}
use Rattle.wire.specs.Bytes.{are_same_bytes, All}
use Rattle.wire.proofs.Lists.{and_left, and_right}
use Rattle.layout.specs.declared.Ids.{Ids}
use Rattle.layout.specs.Messages.{NonceResponse}
use Rattle.layout.specs.Decode.{decode}
use Rattle.validity.specs.Keys.{same_set}
use Rattle.step_definition.specs.Lists.{is_some, given, find, change}
use Rattle.step_definition.specs.Ids.{insert_all}
use Rattle.step_definition.specs.Configuration.{keys_in, key_set_of}
use Rattle.step_definition.specs.Coordinator.{SignRoundInfo, record_of, responses_of, add_response, responder_id}
use Rattle.step_definition.specs.Calls.{Entry, Call, Brought, a_packet, a_start, a_key, no_more, brought}
use Rattle.step_definition.specs.Demand3.{page_of, FromSigner, Ascending}
use Rattle.step_definition.specs.Effects.{recv_key_ids}
use Rattle.step_definition.specs.Questions.{admitted}
use Rattle.step_definition.specs.ResponseLog.{Opened, Page, ResponseLog, entries_for, has_page, enter, same_ids, enters, response_in, when, entry_of, logged, all_keys, different_keys, log_after}
use Rattle.step_definition.proofs.Cases.{cond_case, cond_image}
use Rattle.step_definition.proofs.Lists.{all_change, all_insert}
use Rattle.step_definition.proofs.Ascending.{insert_ascends, insert_all_ascends, insert_all_same, insert_all_append, map-insert_by}

same_ids_law : (a b : Ids) → same_ids a b ≡ true → a ≡ b
unfolding same_ids
same_ids_law a b h =
    let d : a.dkg_id ≡ b.dkg_id = eqb-true _ _ (search (and_left, and_right)) in
    let s : a.sign_id ≡ b.sign_id = eqb-true _ _ (search (and_left, and_right)) in
    let i : a.sign_iter_id ≡ b.sign_iter_id = eqb-true _ _ (search (and_left, and_right)) in
    λ j. record { dkg_id = d j; sign_id = s j; sign_iter_id = i j }

is_some_law : {A : Type 0} (o : Option A) → is_some o ≡ true → (a : A) × (o ≡ Some a)
is_some_law None e = absurd (false≢true e)
is_some_law (Some a) e = (a, refl)

module _ (o : Opened) where
  -- a response as demand 3 says
  abbrev pub Signed : NonceResponse → Type 0
  Signed q = FromSigner o.standing o.request.ids q

  -- 16 to 18 and the silent tests passed
  pub signed :
      (q : NonceResponse) → same_ids q.ids o.request.ids ≡ true
      → admitted o.standing.config o.standing.dkg_end_messages o.standing.malicious_signer_ids q ≡ true → Signed q
  unfolding admitted
  signed q i a =
      let entry = is_some_law (key_set_of o.standing.config q.signer_id) (search (and_left, and_right)) in
      let exact : same_set q.key_ids (keys_in (key_set_of o.standing.config q.signer_id)) ≡ true = search (and_left, and_right) in
      record {
        configured = search (and_left, and_right);
        key_generated = search (and_left, and_right);
        not_malicious = not-true _ (search (and_left, and_right));
        key_set = entry.0;
        entry = entry.1;
        exact = rw entry.1 at exact;
        ids = same_ids_law q.ids o.request.ids i;
      }

  -- What is entered is signed, and signers ascend on every page.
  pub record GoodPage (p : Page) : Type 0 where
    pub entries : All Signed p.entries
    pub signers : Ascending (map responder_id p.entries)

  abbrev pub GoodPages : List Page → Type 0
  GoodPages ps = All GoodPage ps

  enters_signed : (l : ResponseLog) (k : Call) (entry : Entry) (q : NonceResponse) → enters o l k entry q ≡ true → Signed q
  unfolding enters
  enters_signed l k entry q h = signed q (search (and_left, and_right)) (search (and_left, and_right))

  -- the entry that a call makes
  pub data GoodEntry : Option NonceResponse → Type 0 where
    nothing_entered : GoodEntry None
    is_entered : {q : NonceResponse} → Signed q → GoodEntry (Some q)

  entry_branch : {t : Bool} {a b : Option NonceResponse} → (t ≡ true → GoodEntry a) → (t ≡ false → GoodEntry b) → GoodEntry (cond t a b)
  entry_branch {t = t} = cond_case GoodEntry t

  when_good : (l : ResponseLog) (k : Call) (entry : Entry) (q : Option NonceResponse) → GoodEntry (when (enters o l k entry) q)
  when_good l k entry None = nothing_entered
  when_good l k entry (Some q) = entry_branch (λ e. is_entered (enters_signed l k entry q e)) (λ e. nothing_entered)

  pub entry_good : (l : ResponseLog) (k : Call) (b : Brought) → GoodEntry (entry_of o l k b)
  unfolding entry_of
  entry_good l k (a_packet entry bytes) = when_good l k entry (response_in (decode bytes))
  entry_good l k (a_start s) = nothing_entered
  entry_good l k (a_key which held) = nothing_entered
  entry_good l k no_more = nothing_entered

  pub enter_good : (q : NonceResponse) (ps : List Page) → Signed q → GoodPages ps → GoodPages (enter q ps)
  enter_good q ps g a =
      all_change GoodPage _ _ _ ps
      (λ p h. record { entries = all_insert Signed responder_id q p.entries g h.entries; signers = rw map-insert_by (insert_ascends q.signer_id (map responder_id p.entries) h.signers) })
      (record { entries = (g, tt); signers = (tt, tt) }, tt)
      a

  entered-good :
      {q : Option NonceResponse} (ps : List Page) → GoodEntry q → GoodPages ps
      → GoodPages (given q (λ (q : NonceResponse). enter q ps) ps)
  entered-good ps nothing_entered a = a
  entered-good ps (is_entered {q = q} g) a = enter_good q ps g a

  pub logged_good : (l : ResponseLog) (k : Call) → GoodPages l.pages → GoodPages (logged o l k).pages
  unfolding logged
  logged_good l k a = entered-good l.pages (entry_good l k (brought k.request)) a

  pub log_good : (ks : List Call) (l : ResponseLog) → GoodPages l.pages → GoodPages (log_after o l ks).pages
  unfolding log_after
  log_good [] l a = a
  log_good (k ∷ ks) l a = log_good ks (logged o l k) (logged_good l k a)

  -- the entries for a message
  pub entries_good : (m : List ℕ) (ps : List Page) → GoodPages ps → GoodPage (record { message = m; entries = entries_for m ps })
  entries_good m [] a = record { entries = tt; signers = tt }
  entries_good m (p ∷ ps) a =
      cond_case (λ (f : Option Page). GoodPage (record { message = m; entries = given f (λ (p : Page). p.entries) [] }))
      (are_same_bytes m p.message)
      (λ e. record { entries = a.0.entries; signers = a.0.signers })
      (λ e. entries_good m ps a.1)

  -- the keys of entries, as listed and as configured
  the_received_keys : (qs : List NonceResponse) → All Signed qs → recv_key_ids o.standing.config qs ≡ insert_all (all_keys qs) []
  unfolding recv_key_ids all_keys insert_all
  the_received_keys [] a = refl
  the_received_keys (q ∷ qs) a =
      rw (a.0.entry, the_received_keys qs a.1, insert_all_append)
      (sym (insert_all_same q.key_ids a.0.key_set (insert_all (all_keys qs) []) (insert_all_ascends (all_keys qs) [] tt) a.0.exact))

-- the pages of the coordinator's records
abbrev pub pages_of : List SignRoundInfo → List Page
pages_of rs = map page_of rs

pub has_page_law : (m : List ℕ) (rs : List SignRoundInfo) → has_page m (pages_of rs) ≡ is_some (record_of m rs)
has_page_law m [] = refl
has_page_law m (r ∷ rs) =
    cond_case (λ (f : Option Page). is_some f ≡ is_some (record_of m (r ∷ rs))) (are_same_bytes m r.message)
    (λ e. rw e)
    (λ e. rw e (has_page_law m rs))

pub entries_for_law : (m : List ℕ) (rs : List SignRoundInfo) → entries_for m (pages_of rs) ≡ responses_of (record_of m rs)
entries_for_law m [] = refl
entries_for_law m (r ∷ rs) =
    cond_case (λ (f : Option Page). given f (λ (p : Page). p.entries) [] ≡ responses_of (record_of m (r ∷ rs))) (are_same_bytes m r.message)
    (λ e. rw e)
    (λ e. rw e (entries_for_law m rs))

pub entered_record : (now : ℕ) (q : NonceResponse) (rs : List SignRoundInfo) → enter q (pages_of rs) ≡ pages_of (add_response now q rs)
unfolding change
entered_record now q [] = refl
entered_record now q (r ∷ rs) =
    cond_image pages_of (are_same_bytes q.message r.message) refl (ap (λ (ps : List Page). page_of r ∷ ps) (entered_record now q rs))

-- once q is entered, the keys of its message's entries are as many by either count
pub keys-entered :
    (o : Opened) (now : ℕ) (q : NonceResponse) (rs : List SignRoundInfo) → Signed o q → GoodPages o (pages_of rs)
    → different_keys (responses_of (record_of q.message (add_response now q rs))) ≡ length (recv_key_ids o.standing.config (responses_of (record_of q.message (add_response now q rs))))
unfolding different_keys
keys-entered o now q rs g a =
    let ps : GoodPages o (pages_of (add_response now q rs)) = rw (entered_record now) at (enter_good o q (pages_of rs) g a) in
    let qs : All (Signed o) (responses_of (record_of q.message (add_response now q rs))) = rw entries_for_law at (entries_good o q.message (pages_of (add_response now q rs)) ps).entries in
    ap length (sym (the_received_keys o _ qs))
