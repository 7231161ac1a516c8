-- Who may have an answered hold or an item: a job of the layout, and in its pair's session only one that had an act in it.
use Rattle.std.proofs.Common.{◌≡◌, ◌≢◌, ℕ, ◌<◌, List, [], ◌∷◌, ◌++◌, length, refl, subst, sym, ap, ◌∙◌, Bool, true, false, eqb, ◌==◌, if◌then◌else◌, ◌&&◌, ◌||◌, Option, Some, None}
use Rattle.std.specs.Prelude.{is_some, nat_lt}
use Rattle.std.specs.Option.{option_map}
use Rattle.std.proofs.lemmas.Bool.{and_parts, eq-eqb}
use Rattle.std.proofs.lemmas.Option.{same_Some}
use Rattle.plain_orders.specs.declared.layout.Layout.{Layout}
use Rattle.plain_orders.specs.declared.refused.ReasonName.{ReasonName}
use Rattle.plain_orders.specs.Own.{Issued}
use Rattle.plain_runs.specs.Plain.{Server, Session, Pair, Hold, Known, put, app_of, runs_on, pair_session}
use Rattle.plain_runs.specs.EndRows.{MetMay, met_by, without_session, knows_loss}
use Rattle.plain_runs.specs.JobRows.{issues}
use Rattle.plain_runs.specs.LockRows.{granted}
use Rattle.plain_runs.proofs.RunLemmas.{at_put}
use Rattle.plain_runs.proofs.Orders.{Each, each-append}
use Rattle.plain_runs.proofs.Lists.{both_ways}
use Rattle.plain_runs.proofs.HoldRows.{issued_of, of_facts}
use Rattle.plain_runs.proofs.LockRows.{HoldOf, each_first, each_weaker, locks}
use Rattle.plain_runs.specs.Holds.{is_sent, is_of, is_sent_at, answered_hold}

-- what these facts see of a server
pub record Deeds : Type 0 where
  pub holds : List Hold
  pub ses : ℕ → Option Session
  pub pair : ℕ → Option ℕ
  pub acted : ℕ → Bool
  pub bar : ℕ → Bool

abbrev pub deeds : Server → Deeds
deeds s = record {
  holds = s.holds;
  ses = s.session_at;
  pair = λ a. (s.pair_at a).session;
  acted = λ j. (s.known_at j).acted;
  bar = λ j. is_some (s.known_at j).bar;
}

-- an answered hold is of a job of the layout
abbrev pub OfLayout : Layout → Hold → Type 0
OfLayout l h = h.answered ≡ true → h.job < length l.job_apps

-- an answered hold in the session is of another job
abbrev pub OfAnother : ℕ → ℕ → Hold → Type 0
OfAnother n j h = h.answered ≡ true → h.session ≡ n → h.job ≢ j

pub record DeedsKept (l : Layout) (v : Deeds) : Type 0 where
  pub holds : Each (OfLayout l) v.holds
  pub items : (n : ℕ) → Each (λ (i : Issued). i.job < length l.job_apps) (issued_of (v.ses n))
  pub bar : (j : ℕ) → v.bar j ≡ true → v.acted j ≡ false
  pub held : (j n : ℕ) → j < length l.job_apps → v.acted j ≡ false → v.pair (app_of l j) ≡ Some n → Each (OfAnother n j) v.holds
  pub issued : (j n : ℕ) → j < length l.job_apps → v.acted j ≡ false → v.pair (app_of l j) ≡ Some n → Each (λ (i : Issued). i.job ≢ j) (issued_of (v.ses n))

abbrev pub DeedSteps : Layout → Server → Server → Type 0
DeedSteps l s t = DeedsKept l (deeds s) → DeedsKept l (deeds t)

-- what holds of each hold by its holder and of each that isn't answered stays
abbrev pub SameHolders : List Hold → List Hold → Type 1
SameHolders hs more = (Q : Bool → ℕ → ℕ → Type 0) → ((s j : ℕ) → Q false s j) → Each (λ (h : Hold). Q h.answered h.session h.job) hs → Each (λ (h : Hold). Q h.answered h.session h.job) more

pub same_holders : (hs : List Hold) → SameHolders hs hs
same_holders hs Q f e = e

-- no hold is answered, nothing is issued and no session is met
pub calm : (l : Layout) (v w : Deeds) → SameHolders v.holds w.holds → ((n : ℕ) → issued_of (w.ses n) ≡ issued_of (v.ses n)) → ((a n : ℕ) → w.pair a ≡ Some n → v.pair a ≡ Some n)
    → ((j n : ℕ) → w.acted j ≡ false → w.pair (app_of l j) ≡ Some n → v.acted j ≡ false) → ((j : ℕ) → (v.bar j ≡ true → v.acted j ≡ false) → w.bar j ≡ true → w.acted j ≡ false) → DeedsKept l v → DeedsKept l w
calm l v w holds ses pair acted bar k = record {
  holds = holds (λ a s j. a ≡ true → j < length l.job_apps) (λ s j e. absurd (cc (e))) k.holds;
  items = λ n. subst (Each (λ (i : Issued). i.job < length l.job_apps)) (sym (ses n)) (k.items n);
  bar = λ j b. bar j (k.bar j) b;
  held = λ j n there a p. holds (λ b s i. b ≡ true → s ≡ n → i ≢ j) (λ s i e. absurd (cc (e))) (k.held j n there (acted j n a p) (pair (app_of l j) n p));
  issued = λ j n there a p. subst (Each (λ (i : Issued). i.job ≢ j)) (sym (ses n)) (k.issued j n there (acted j n a p) (pair (app_of l j) n p));
}

-- what a job that acts knows
acted_put : (f : ℕ → Known) (job : ℕ) (x : Known) (j : ℕ) → x.acted ≡ true → (put f job x j).acted ≡ false → (eqb j job ≡ false) × ((f j).acted ≡ false)
acted_put f job x j on = go (eqb j job) refl
  where
    go : (b : Bool) → eqb j job ≡ b → (if b then x else f j).acted ≡ false → (eqb j job ≡ false) × ((f j).acted ≡ false)
    go true e a = absurd (both_ways x.acted on a)
    go false e a = (e, a)

bar_put : (f : ℕ → Known) (job : ℕ) (x : Known) (j : ℕ) → is_some x.bar ≡ false → (is_some (f j).bar ≡ true → (f j).acted ≡ false) → is_some (put f job x j).bar ≡ true → (put f job x j).acted ≡ false
bar_put f job x j free old = go (eqb j job)
  where
    go : (b : Bool) → is_some (if b then x else f j).bar ≡ true → (if b then x else f j).acted ≡ false
    go true e = absurd (both_ways (is_some x.bar) e free)
    go false e = old e

-- a job that isn't barred acts
pub act_steps : (l : Layout) (s t : Server) (job : ℕ) (x : Known) (holds : List Hold) → deeds t ≡ record (deeds s) { holds = holds; acted = λ j. (put s.known_at job x j).acted; bar = λ j. is_some (put s.known_at job x j).bar }
    → SameHolders s.holds holds → x.acted ≡ true → is_some x.bar ≡ false → DeedSteps l s t
act_steps l s t job x holds same hs on free k =
    subst (DeedsKept l) (sym same)
    (calm l (deeds s) (record (deeds s) { holds = holds; acted = λ j. (put s.known_at job x j).acted; bar = λ j. is_some (put s.known_at job x j).bar }) hs (λ n. refl) (λ a n e. e)
    (λ j n a p. (acted_put s.known_at job x j on a).1) (λ j old. bar_put s.known_at job x j free old) k)

-- a grant is answered
pub granted_steps : (l : Layout) (s : Server) (job at : ℕ) → job < length l.job_apps → is_some (s.known_at job).bar ≡ false → DeedSteps l s (granted s (app_of l job) job at)
granted_steps l s job at there free k = record {
  holds = each_first (OfLayout l) (is_sent_at (pair_session s (app_of l job)) job at) answered_hold (λ h is old e. subst (λ i. i < length l.job_apps) (sym (of h is)) there) s.holds k.holds;
  items = k.items;
  bar = λ j. bar_put s.known_at job _ j free (k.bar j);
  held = λ j n low a p.
      let x = acted_put s.known_at job _ j refl a in
      each_first (OfAnother n j) (is_sent_at (pair_session s (app_of l job)) job at) answered_hold (λ h is old e f g. absurd (other j x.0 (sym g ∙ of h is))) s.holds (k.held j n low x.1 p);
  issued = λ j n low a p. k.issued j n low (acted_put s.known_at job _ j refl a).1 p;
}
  where
    of : (h : Hold) → is_sent_at (pair_session s (app_of l job)) job at h ≡ true → h.job ≡ job
    of h is =
        let a = and_parts (is_sent h) (is_of (pair_session s (app_of l job)) job h && h.at == at) is in
        let b = and_parts (is_of (pair_session s (app_of l job)) job h) (h.at == at) a.1 in
        (of_facts (pair_session s (app_of l job)) job h b.0).1

    other : (j : ℕ) → eqb j job ≡ false → j ≡ job → ⊥
    other j e same = absurd (both_ways (eqb j job) (ap (λ i. eqb j i) (sym same) ∙ eq-eqb j j refl) e)

-- an item is issued
pub issue_steps : (l : Layout) (s : Server) (i : Issued) → i.job < length l.job_apps → is_some (s.known_at i.job).bar ≡ false → DeedSteps l s (issues s (app_of l i.job) i)
issue_steps l s i there free k = record {
  holds = k.holds;
  items = λ n. grown (λ j. j < length l.job_apps) there n (k.items n);
  bar = λ j. bar_put s.known_at i.job _ j free (k.bar j);
  held = λ j n low a p. k.held j n low (acted_put s.known_at i.job _ j refl a).1 p;
  issued = λ j n low a p.
      let x = acted_put s.known_at i.job _ j refl a in
      grown (λ m. m ≢ j) (λ e. absurd (both_ways (eqb j i.job) (eq-eqb j i.job (sym e)) x.0)) n (k.issued j n low x.1 p);
}
  where
    grown : (Q : ℕ → Type 0) → Q i.job → (n : ℕ) → Each (λ (x : Issued). Q x.job) (issued_of (s.session_at n)) → Each (λ (x : Issued). Q x.job) (issued_of ((issues s (app_of l i.job) i).session_at n))
    grown Q q n old =
        at_put (λ o r. Each (λ (x : Issued). Q x.job) (issued_of o) → Each (λ (x : Issued). Q x.job) (issued_of r)) s.session_at (pair_session s (app_of l i.job)) _ (λ o e. e) (here (s.session_at (pair_session s (app_of l i.job)))) n old
      where
        here : (o : Option Session) → Each (λ (x : Issued). Q x.job) (issued_of o) → Each (λ (x : Issued). Q x.job) (issued_of (option_map (λ (m : Session). record m { issued = m.issued ++ i ∷ [] }) o))
        here None e = e
        here (Some m) e = each-append (λ (x : Issued). Q x.job) m.issued (i ∷ []) e (q, tt)

-- a job of another application server
elsewhere : (l : Layout) (app j : ℕ) → eqb (app_of l j) app ≡ false → runs_on l app j ≡ false
elsewhere l app j e = go (nat_lt j (length l.job_apps))
  where
    go : (b : Bool) → (b && app_of l j == app) ≡ false
    go true = e
    go false = refl

-- a session is met
pub met_steps : (l : Layout) (s : Server) (app session : ℕ) → MetMay s app session → Each (HoldOf (locks s)) s.holds → DeedSteps l s (met_by l s app session)
met_steps l s app session may kept k = record {
  holds = k.holds;
  items = λ n. news (λ j. j < length l.job_apps) n (k.items n);
  bar = λ j. bar j (runs_on l app j) (k.bar j);
  held = λ j n there a p. held j n there a p (eqb (app_of l j) app) refl;
  issued = λ j n there a p. news (λ i. i ≢ j) n (issued j n there a p (eqb (app_of l j) app) refl);
}
  where
    new : Server
    new = met_by l s app session

    news : (Q : ℕ → Type 0) (n : ℕ) → Each (λ (x : Issued). Q x.job) (issued_of (s.session_at n)) → Each (λ (x : Issued). Q x.job) (issued_of (new.session_at n))
    news Q n old = at_put (λ o r. Each (λ (x : Issued). Q x.job) (issued_of o) → Each (λ (x : Issued). Q x.job) (issued_of r)) s.session_at session _ (λ o e. e) (λ e. tt) n old

    bar : (j : ℕ) (b : Bool) → (is_some (s.known_at j).bar ≡ true → (s.known_at j).acted ≡ false) → is_some (if b then record (s.known_at j) { seen = session; acted = false } else s.known_at j).bar ≡ true → (if b then record (s.known_at j) { seen = session; acted = false } else s.known_at j).acted ≡ false
    bar j true old e = refl
    bar j false old e = old e

    acted : (j : ℕ) → eqb (app_of l j) app ≡ false → (new.known_at j).acted ≡ false → (s.known_at j).acted ≡ false
    acted j e a = subst (λ (b : Bool). (if b then record (s.known_at j) { seen = session; acted = false } else s.known_at j).acted ≡ false) (elsewhere l app j e) a

    pairs : (a n : ℕ) (b : Bool) → eqb a app ≡ b → (new.pair_at a).session ≡ Some n → (if b then Some session else (s.pair_at a).session) ≡ Some n
    pairs a n true e p = subst (λ (c : Bool). (if c then record { session = Some session; broke = None } else s.pair_at a).session ≡ Some n) e p
    pairs a n false e p = subst (λ (c : Bool). (if c then record { session = Some session; broke = None } else s.pair_at a).session ≡ Some n) e p

    unmet : (n : ℕ) → session ≡ n → is_some (s.session_at n) ≡ true → ⊥
    unmet n same m = both_ways (is_some (s.session_at n)) m (subst (λ i. is_some (s.session_at i) ≡ false) same may.fresh)

    held : (j n : ℕ) → j < length l.job_apps → (new.known_at j).acted ≡ false → (new.pair_at (app_of l j)).session ≡ Some n → (b : Bool) → eqb (app_of l j) app ≡ b → Each (OfAnother n j) s.holds
    held j n there a p true e =
        let same : session ≡ n = same_Some session n (pairs (app_of l j) n true e p) in
        each_weaker (HoldOf (locks s)) (OfAnother n j) (λ h x on at. absurd (unmet n same (subst (λ i. is_some (s.session_at i) ≡ true) at (x.met (ap (λ (b : Bool). b || is_some h.given) on))))) s.holds kept
    held j n there a p false e = k.held j n there (acted j e a) (pairs (app_of l j) n false e p)

    nothing : (P : Issued → Type 0) (o : Option Session) → (is_some o ≡ true → ⊥) → Each P (issued_of o)
    nothing P None f = tt
    nothing P (Some m) f = absurd (f refl)

    issued : (j n : ℕ) → j < length l.job_apps → (new.known_at j).acted ≡ false → (new.pair_at (app_of l j)).session ≡ Some n → (b : Bool) → eqb (app_of l j) app ≡ b → Each (λ (x : Issued). x.job ≢ j) (issued_of (s.session_at n))
    issued j n there a p true e = nothing (λ (x : Issued). x.job ≢ j) (s.session_at n) (unmet n (same_Some session n (pairs (app_of l j) n true e p)))
    issued j n there a p false e = k.issued j n there (acted j e a) (pairs (app_of l j) n false e p)

-- a session is lost
pub lose_steps : (l : Layout) (s : Server) (app : ℕ) (reason : ReasonName) → DeedSteps l s (without_session l s app reason)
lose_steps l s app reason =
    calm l (deeds s) (deeds new) (same_holders s.holds) (λ n. refl) pairs (λ j n a p. acted j n a p (eqb (app_of l j) app) refl) (λ j. bar j (runs_on l app j))
  where
    new : Server
    new = without_session l s app reason

    pairs : (a n : ℕ) → (new.pair_at a).session ≡ Some n → (s.pair_at a).session ≡ Some n
    pairs a n = at_put (λ (y z : Pair). z.session ≡ Some n → y.session ≡ Some n) s.pair_at app _ (λ y e. e) (λ e. absurd (cc (e))) a

    acted : (j n : ℕ) → (new.known_at j).acted ≡ false → (new.pair_at (app_of l j)).session ≡ Some n → (b : Bool) → eqb (app_of l j) app ≡ b → (s.known_at j).acted ≡ false
    acted j n a p true e = absurd (cc (subst (λ (c : Bool). (if c then record { session = None; broke = None } else s.pair_at (app_of l j)).session ≡ Some n) e p))
    acted j n a p false e = subst (λ (b : Bool). (if b then knows_loss reason (s.known_at j) else s.known_at j).acted ≡ false) (elsewhere l app j e) a

    bar : (j : ℕ) (b : Bool) → (is_some (s.known_at j).bar ≡ true → (s.known_at j).acted ≡ false) → is_some (if b then knows_loss reason (s.known_at j) else s.known_at j).bar ≡ true → (if b then knows_loss reason (s.known_at j) else s.known_at j).acted ≡ false
    bar j true old e = refl
    bar j false old e = old e

-- some jobs know something else, but not whether they acted, nor a bar
pub know_steps : (l : Layout) (s t : Server) (ses : ℕ → Option Session) (known : ℕ → Known) → deeds t ≡ record (deeds s) { ses = ses; acted = λ j. (known j).acted; bar = λ j. is_some (known j).bar }
    → ((n : ℕ) → issued_of (ses n) ≡ issued_of (s.session_at n)) → ((j : ℕ) → (known j).acted ≡ (s.known_at j).acted) → ((j : ℕ) → is_some (known j).bar ≡ true → is_some (s.known_at j).bar ≡ true) → DeedSteps l s t
know_steps l s t ses known same issued acted bar k =
    subst (DeedsKept l) (sym same)
    (calm l (deeds s) (record (deeds s) { ses = ses; acted = λ j. (known j).acted; bar = λ j. is_some (known j).bar }) (same_holders s.holds) issued (λ a n e. e)
    (λ j n a p. sym (acted j) ∙ a) (λ j old e. acted j ∙ old (bar j e)) k)

-- one pair changes, its session as it was
pub pair_steps : (l : Layout) (s : Server) (a : ℕ) (x : Pair) → ((n : ℕ) → x.session ≡ Some n → (s.pair_at a).session ≡ Some n) → DeedsKept l (deeds s) → DeedsKept l (record (deeds s) { pair = λ b. (put s.pair_at a x b).session })
pair_steps l s a x here =
    calm l (deeds s) (record (deeds s) { pair = λ b. (put s.pair_at a x b).session }) (same_holders s.holds) (λ n. refl)
    (λ b n. at_put (λ (y z : Pair). z.session ≡ Some n → y.session ≡ Some n) s.pair_at a x (λ y e. e) (here n) b) (λ j n e p. e) (λ j old. old)

-- holds change, but none is answered
pub hold_steps : (l : Layout) (s : Server) (holds : List Hold) → SameHolders s.holds holds → DeedsKept l (deeds s) → DeedsKept l (record (deeds s) { holds = holds })
hold_steps l s holds hs = calm l (deeds s) (record (deeds s) { holds = holds }) hs (λ n. refl) (λ a n e. e) (λ j n e p. e) (λ j old. old)
