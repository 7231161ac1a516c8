-- Requests for locks while a step of a data server goes on.
use Rattle.std.proofs.Common.{◌≡◌, ◌≢◌, ◌⊎◌, inl, inr, ℕ, Bool, true, false, ◌||◌, cond, List, [], ◌∷◌, ◌++◌, length, Option, Some, None, refl, sym, ◌∙◌, ap, subst}
use Rattle.std.specs.Prelude.{◌==◌}
use Rattle.std.specs.List.{AllByRecursion, list_any}
use Rattle.std.proofs.lemmas.Bool.{and_parts, eqb-true, false≢true, true≢false, or_parts}
use Rattle.lock_table.specs.declared.rows.Request.{Request}
use Rattle.lock_table.specs.LockWords.{Freed, Locks, asked, is_ticket, waits, with_grant}
use Rattle.ecp_messages.specs.declared.up.Up.{Up}
use Rattle.ecp_messages.specs.declared.down.Down.{Down}
use Rattle.end_words.specs.Windows.{Window, with_ack_put, with_sent}
use Rattle.data_rules.specs.DataState.{DataState, SessionWindow}
use Rattle.data_rules.specs.declared.rows.Reply.{Reply}
use Rattle.data_rules.specs.declared.rows.Says.TheVariants.{GrantOf}
use Rattle.data_rules.specs.Granting.{grants, grants_one, locks_become, with_locks}
use Rattle.data_rules.specs.Puts.{Sofar, becomes, conn_of, set_window, window_in}
use Rattle.cluster_runs.specs.Sent.{Lane, ups_taken}
use Rattle.cluster_invariant.specs.Asks.{asks_it, asks_ticket, cancels_ticket, grants_ticket, is_grant_of}
use Rattle.cluster_invariant.specs.Served.{has_one_ticket}
use Rattle.cluster_invariant.proofs.AllLists.{all_both, all_follow, all_joined}
use Rattle.cluster_invariant.proofs.Parts.{IsPart, part_all, part_then}
use Rattle.cluster_invariant.proofs.PutLaws.{only_locks, windows_put}
use Rattle.cluster_invariant.proofs.RequestParts.{become_locks, part_tickets}
use Rattle.link_kept.proofs.WindowLists.{set_elsewhere, set_here}
use Rattle.link_kept.proofs.WindowsGo.{same_or}
use Rattle.asks_kept.proofs.FewerGrants.{FewerGrants, RepliesFewer, WindowsFewer, granted_in, replied_in}
use Rattle.asks_kept.proofs.Follows.{any_either, none_found}
use Rattle.asks_kept.proofs.Tickets.{GrantsApart, IsApart, ticket_pushed, ticket_turned}
use Rattle.asks_kept.proofs.UpKinds.{any_for, any_of_all, any_ticket}

-- A request that waits: its Ask is among the messages that the step has taken in the end, it wasn't given up as the step began, and its Grant
-- neither was put nor waits.
pub record RequestGo (lane_of : ℕ → Lane) (ups : ℕ → List Up) (ws : List SessionWindow) (qs : List Reply) (r : Request) : Type 0 where
  pub asked : list_any (asks_it r) (ups r.who.session) ≡ true
  pub wanted : list_any (cancels_ticket r.ticket) (ups_taken (lane_of r.who.session)) ≡ false
  pub before : list_any (grants_ticket r.ticket) (lane_of r.who.session).down ≡ false
  pub waiting : granted_in ws r.who.session r.ticket ≡ false
  pub unanswered : replied_in qs r.who.session r.ticket ≡ false

-- What a step has come to: the requests that wait, and the Grants in windows and as replies.
pub record AsksGo (lane_of : ℕ → Lane) (ups : ℕ → List Up) (rs : List Request) (ws : List SessionWindow) (qs : List Reply) : Type 0 where
  pub one_each : has_one_ticket rs ≡ true
  pub requests : AllByRecursion (RequestGo lane_of ups ws qs) rs
  pub windows : (s t : ℕ) → granted_in ws s t ≡ true → list_any (asks_ticket t) (ups s) ≡ true
  pub replies : (s t : ℕ) → replied_in qs s t ≡ true → list_any (asks_ticket t) (ups s) ≡ true

-- of a state
abbrev pub AsksIn : (ℕ → Lane) → (ℕ → List Up) → DataState → Type 0
AsksIn lane_of ups d = AsksGo lane_of ups d.locks.requests d.windows d.replies

-- what isn't found where more is isn't found where less is
pub none_fewer : (a b : Bool) → (a ≡ true → b ≡ true) → b ≡ false → a ≡ false
none_fewer true b fewer none = absurd (true≢false (sym (fewer refl) ∙ none))
none_fewer false b fewer none = refl

module _ (lane_of : ℕ → Lane) (ups : ℕ → List Up) where
  -- a request waits still as fewer Grants wait
  request_fewer : (ws vs : List SessionWindow) (rs qs : List Reply) → WindowsFewer ws vs → RepliesFewer rs qs → (r : Request) → RequestGo lane_of ups ws rs r
      → RequestGo lane_of ups vs qs r
  request_fewer ws vs rs qs windows replies r h = record {
    asked = h.asked;
    wanted = h.wanted;
    before = h.before;
    waiting = none_fewer (granted_in vs r.who.session r.ticket) (granted_in ws r.who.session r.ticket) (windows r.who.session r.ticket) h.waiting;
    unanswered = none_fewer (replied_in qs r.who.session r.ticket) (replied_in rs r.who.session r.ticket) (replies r.who.session r.ticket) h.unanswered;
  }

  pub asks_fewer : (d e : DataState) → FewerGrants d e → AsksIn lane_of ups d → AsksIn lane_of ups e
  asks_fewer d e less h =
      subst (λ (l : Locks). AsksGo lane_of ups l.requests e.windows e.replies) (sym less.locks) (record {
        one_each = h.one_each;
        requests =
            all_follow (RequestGo lane_of ups d.windows d.replies) (RequestGo lane_of ups e.windows e.replies)
            (request_fewer d.windows e.windows d.replies e.replies less.windows less.replies) d.locks.requests h.requests;
        windows = λ s t is. h.windows s t (less.windows s t is);
        replies = λ s t is. h.replies s t (less.replies s t is);
      })

  -- a Grant that leaves

  -- what is put to a session stands in its window alone
  sent_or : (q : ℕ) (m : Down) (ws : List SessionWindow) (s t : ℕ) → granted_in (set_window ws q (with_sent (window_in ws q) m)) s t ≡ true
      → (granted_in ws s t ≡ true) ⊎ ((s ≡ q) × (grants_ticket t m ≡ true))
  sent_or q m ws s t is = go (same_or s q)
    where
      first : (b : Bool) → (b || false) ≡ true → b ≡ true
      first true at = refl
      first false at = absurd (false≢true at)

      by : (granted_in ws q t ≡ true) ⊎ (list_any (grants_ticket t) (m ∷ []) ≡ true) → s ≡ q → (granted_in ws s t ≡ true) ⊎ ((s ≡ q) × (grants_ticket t m ≡ true))
      by (inl was) same = inl (subst (λ (n : ℕ). granted_in ws n t ≡ true) (sym same) was)
      by (inr now) same = inr (same, first (grants_ticket t m) now)

      go : (s ≡ q) ⊎ (s ≢ q) → (granted_in ws s t ≡ true) ⊎ ((s ≡ q) × (grants_ticket t m ≡ true))
      go (inl same) =
          by (any_either (grants_ticket t) (window_in ws q).waiting (m ∷ [])
          (sym (ap (λ (v : Window Down). list_any (grants_ticket t) v.waiting) (set_here ws q (with_sent (window_in ws q) m)))
          ∙ subst (λ (n : ℕ). granted_in (set_window ws q (with_sent (window_in ws q) m)) n t ≡ true) same is)) same
      go (inr other) =
          inl (sym (ap (λ (v : Window Down). list_any (grants_ticket t) v.waiting) (set_elsewhere ws q s (with_sent (window_in ws q) m) other)) ∙ is)

  put_or : (o : Option ℕ) (q : ℕ) (m : Down) (ws : List SessionWindow) (s t : ℕ) → granted_in (windows_put o q m ws) s t ≡ true
      → (granted_in ws s t ≡ true) ⊎ ((s ≡ q) × (grants_ticket t m ≡ true))
  put_or None q m ws s t is = sent_or q m ws s t is
  put_or (Some conn) q m ws s t is = sent_or q m ws s t (told (same_or s q))
    where
      vs : List SessionWindow
      vs = set_window ws q (with_sent (window_in ws q) m)

      told : (s ≡ q) ⊎ (s ≢ q) → granted_in vs s t ≡ true
      told (inl same) =
          subst (λ (n : ℕ). granted_in vs n t ≡ true) (sym same)
          (sym (ap (λ (v : Window Down). list_any (grants_ticket t) v.waiting) (set_here vs q (with_ack_put (window_in vs q))))
          ∙ subst (λ (n : ℕ). granted_in (set_window vs q (with_ack_put (window_in vs q))) n t ≡ true) same is)
      told (inr other) = sym (ap (λ (v : Window Down). list_any (grants_ticket t) v.waiting) (set_elsewhere vs q s (with_ack_put (window_in vs q)) other)) ∙ is

  -- As the Grant of a ticket is put that waited as a reply.
  pub asks_granted : (b : Sofar) (qs : List Reply) (q ticket : ℕ) (m : Down) → replied_in b.state.replies q ticket ≡ true → RepliesFewer b.state.replies qs
      → ((t : ℕ) → grants_ticket t m ≡ true → t ≡ ticket) → AsksIn lane_of ups b.state
      → AsksGo lane_of ups b.state.locks.requests (windows_put (conn_of b.state q) q m b.state.windows) qs
  asks_granted b qs q ticket m there less its h = record {
    one_each = h.one_each;
    requests =
        all_follow (RequestGo lane_of ups b.state.windows b.state.replies) (RequestGo lane_of ups vs qs)
        (λ r go. record {
          asked = go.asked;
          wanted = go.wanted;
          before = go.before;
          waiting = stays r go (granted_in vs r.who.session r.ticket) refl;
          unanswered = none_fewer (replied_in qs r.who.session r.ticket) (replied_in b.state.replies r.who.session r.ticket) (less r.who.session r.ticket) go.unanswered;
        }) b.state.locks.requests h.requests;
    windows = λ s t is. by s t (put_or (conn_of b.state q) q m b.state.windows s t is);
    replies = λ s t is. h.replies s t (less s t is);
  }
    where
      vs : List SessionWindow
      vs = windows_put (conn_of b.state q) q m b.state.windows

      reply_at : (s t : ℕ) → s ≡ q → grants_ticket t m ≡ true → replied_in b.state.replies s t ≡ true
      reply_at s t same is =
          subst (λ (n : ℕ). replied_in b.state.replies n t ≡ true) (sym same) (subst (λ (n : ℕ). replied_in b.state.replies q n ≡ true) (sym (its t is)) there)

      by : (s t : ℕ) → (granted_in b.state.windows s t ≡ true) ⊎ ((s ≡ q) × (grants_ticket t m ≡ true)) → list_any (asks_ticket t) (ups s) ≡ true
      by s t (inl was) = h.windows s t was
      by s t (inr now) = h.replies s t (reply_at s t now.0 now.1)

      stays : (r : Request) → RequestGo lane_of ups b.state.windows b.state.replies r → (c : Bool) → granted_in vs r.who.session r.ticket ≡ c
          → granted_in vs r.who.session r.ticket ≡ false
      stays r go false none = none
      stays r go true is = not (put_or (conn_of b.state q) q m b.state.windows r.who.session r.ticket is)
        where
          not : (granted_in b.state.windows r.who.session r.ticket ≡ true) ⊎ ((r.who.session ≡ q) × (grants_ticket r.ticket m ≡ true))
              → granted_in vs r.who.session r.ticket ≡ false
          not (inl was) = absurd (true≢false (sym was ∙ go.waiting))
          not (inr now) = absurd (true≢false (sym (reply_at r.who.session r.ticket now.0 now.1) ∙ go.unanswered))

  -- calls of the table of locks

  -- What is left and granted is known, and no ticket is in both.
  pub record CallGo (P : Request → Type 0) (f : Freed) : Type 0 where
    pub one_each : has_one_ticket f.locks.requests ≡ true
    pub requests : AllByRecursion P f.locks.requests
    pub each : AllByRecursion P f.grants
    pub apart : AllByRecursion (IsApart f.locks.requests) f.grants

  -- of a pass through a part of the requests
  pub call_passed : (P : Request → Type 0) (f : Freed) (from rs : List Request) → IsPart from rs → has_one_ticket rs ≡ true → AllByRecursion P rs → GrantsApart P f from
      → CallGo P f
  call_passed P f from rs part one all g = record {
    one_each = part_tickets f.locks.requests rs (part_then f.locks.requests from rs g.left part) one;
    requests = part_all P f.locks.requests rs (part_then f.locks.requests from rs g.left part) all;
    each = g.each;
    apart = g.apart;
  }

  -- of a request that comes
  pub call_asked : (P : Request → Type 0) (l : Locks) (r : Request) (at : ℕ) → has_one_ticket l.requests ≡ true → AllByRecursion P l.requests → P r
      → IsApart l.requests r → CallGo P (asked l r at)
  call_asked P l r at one all is apart = go (waits l.holds l.requests r)
    where
      go : (b : Bool)
          → CallGo P (cond b (record { locks = record l { requests = l.requests ++ r ∷ [] }; grants = [] }) (record { locks = with_grant l r at; grants = r ∷ [] }))
      go true = record { one_each = ticket_pushed l.requests r apart one; requests = all_joined P l.requests (r ∷ []) all (is, tt); each = tt; apart = tt }
      go false = record { one_each = one; requests = all; each = (is, tt); apart = (apart, tt) }

  -- each Grant that waits after some were granted waited, or is of one of these
  granted_or : (gs : List Request) (b : Sofar) (s t : ℕ) → replied_in (grants gs b).state.replies s t ≡ true
      → (replied_in b.state.replies s t ≡ true) ⊎ (list_any (is_ticket s t) gs ≡ true)
  granted_or [] b s t is = inl is
  granted_or (g ∷ gs) b s t is = go (granted_or gs (grants_one g b) s t is)
    where
      behind : (x y : Bool) → y ≡ true → (x || y) ≡ true
      behind true y at = refl
      behind false y at = at

      first : (x : Bool) → (x || false) ≡ true → x ≡ true
      first true at = refl
      first false at = absurd (false≢true at)

      by : (replied_in b.state.replies s t ≡ true) ⊎ (list_any (is_grant_of s t) (record { at = length b.state.order; says = GrantOf g.who.session g.ticket (length b.state.order) } ∷ []) ≡ true)
          → (replied_in b.state.replies s t ≡ true) ⊎ (list_any (is_ticket s t) (g ∷ gs) ≡ true)
      by (inl was) = inl was
      by (inr now) = inr (ap (λ (x : Bool). x || list_any (is_ticket s t) gs) (first (is_ticket s t g) now))

      go : (replied_in (grants_one g b).state.replies s t ≡ true) ⊎ (list_any (is_ticket s t) gs ≡ true)
          → (replied_in b.state.replies s t ≡ true) ⊎ (list_any (is_ticket s t) (g ∷ gs) ≡ true)
      go (inl at) =
          by (any_either (is_grant_of s t) b.state.replies (record { at = length b.state.order; says = GrantOf g.who.session g.ticket (length b.state.order) } ∷ []) at)
      go (inr at) = inr (behind (is_ticket s t g) (list_any (is_ticket s t) gs) at)

  -- those that are left are apart from those that were granted
  apart_turned : (rs gs : List Request) → AllByRecursion (IsApart rs) gs → AllByRecursion (IsApart gs) rs
  apart_turned [] gs all = tt
  apart_turned (q ∷ rs) gs all = (
    none_found (IsApart (q ∷ rs)) (is_ticket q.who.session q.ticket)
        (λ (g : Request) is apart.
        true≢false (sym (ticket_turned g q ∙ is) ∙ (or_parts (is_ticket g.who.session g.ticket q) (list_any (is_ticket g.who.session g.ticket) rs) apart).0)) gs all,
    apart_turned rs gs
        (all_follow (IsApart (q ∷ rs)) (IsApart rs)
        (λ (g : Request) apart. (or_parts (is_ticket g.who.session g.ticket q) (list_any (is_ticket g.who.session g.ticket) rs) apart).1) gs all),
  )

  -- A call of the table.
  pub asks_called : (f : Freed) (b : Sofar) → CallGo (RequestGo lane_of ups b.state.windows b.state.replies) f → AsksIn lane_of ups b.state
      → AsksIn lane_of ups (locks_become f b).state
  asks_called f b call h = go (only_locks f b).state (become_locks f b)
    where
      e : DataState
      e = (locks_become f b).state

      or_granted : (s t : ℕ) → replied_in e.replies s t ≡ true → (replied_in b.state.replies s t ≡ true) ⊎ (list_any (is_ticket s t) f.grants ≡ true)
      or_granted s t is = granted_or f.grants (becomes (with_locks f.locks) b) s t is

      asked_of : (s t : ℕ) → (replied_in b.state.replies s t ≡ true) ⊎ (list_any (is_ticket s t) f.grants ≡ true) → list_any (asks_ticket t) (ups s) ≡ true
      asked_of s t (inl was) = h.replies s t was
      asked_of s t (inr now) = any_of_all (RequestGo lane_of ups b.state.windows b.state.replies) (list_any (asks_ticket t) (ups s) ≡ true) (is_ticket s t) each f.grants now call.each
        where
          each : (g : Request) → is_ticket s t g ≡ true → RequestGo lane_of ups b.state.windows b.state.replies g → list_any (asks_ticket t) (ups s) ≡ true
          each g is go =
              let parts : ((g.who.session == s) ≡ true) × ((g.ticket == t) ≡ true) = and_parts (g.who.session == s) (g.ticket == t) is in
              subst (λ (n : ℕ). list_any (asks_ticket n) (ups s) ≡ true) (eqb-true g.ticket t parts.1)
              (subst (λ (n : ℕ). list_any (asks_ticket g.ticket) (ups n) ≡ true) (eqb-true g.who.session s parts.0)
              (any_ticket g.ticket g.who.job (ups g.who.session) (any_for g (ups g.who.session) go.asked)))

      unanswered : (r : Request) → IsApart f.grants r → replied_in b.state.replies r.who.session r.ticket ≡ false → (c : Bool) → replied_in e.replies r.who.session r.ticket ≡ c
          → replied_in e.replies r.who.session r.ticket ≡ false
      unanswered r apart none false is = is
      unanswered r apart none true is = not (or_granted r.who.session r.ticket is)
        where
          not : (replied_in b.state.replies r.who.session r.ticket ≡ true) ⊎ (list_any (is_ticket r.who.session r.ticket) f.grants ≡ true)
              → replied_in e.replies r.who.session r.ticket ≡ false
          not (inl was) = absurd (true≢false (sym was ∙ none))
          not (inr now) = absurd (true≢false (sym now ∙ apart))

      go : {l : Locks} {qs : List Reply} → e ≡ record b.state { locks = l; replies = qs } → e.locks ≡ f.locks → AsksIn lane_of ups e
      go same locks =
          subst (λ (x : Locks). AsksGo lane_of ups x.requests e.windows e.replies) (sym locks)
          (subst (λ (ws : List SessionWindow). AsksGo lane_of ups f.locks.requests ws e.replies) (sym (ap (λ (d : DataState). d.windows) same)) (record {
            one_each = call.one_each;
            requests =
                all_follow (λ (r : Request). RequestGo lane_of ups b.state.windows b.state.replies r × IsApart f.grants r) (RequestGo lane_of ups b.state.windows e.replies)
                (λ r both. record {
                  asked = both.0.asked;
                  wanted = both.0.wanted;
                  before = both.0.before;
                  waiting = both.0.waiting;
                  unanswered = unanswered r both.1 both.0.unanswered (replied_in e.replies r.who.session r.ticket) refl;
                }) f.locks.requests
                (all_both (RequestGo lane_of ups b.state.windows b.state.replies) (IsApart f.grants) f.locks.requests call.requests
                (apart_turned f.locks.requests f.grants call.apart));
            windows = h.windows;
            replies = λ s t is. asked_of s t (or_granted s t is);
          }))
