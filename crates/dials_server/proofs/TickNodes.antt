-- What a tick makes of a data server's connections: sessions whose time is over are closed, and what that drops is put to others.
use Rattle.std.proofs.Common.{◌≡◌, ◌⊎◌, ◌≤◌, ◌<◌, ℕ, zero, suc, ◌+◌, Bool, true, false, ◌==◌, if◌then◌else◌, List, [], ◌∷◌, ◌++◌, length, Option, Some, None, is_some, option_map, refl, sym, ◌∙◌, ap, subst, arith, inl, inr}
use Rattle.std.specs.Prelude.{⊤, get_or, set, nat_le, nat_lt}
use Rattle.std.specs.List.{AllByRecursion, find, range_with_len}
use Rattle.std.proofs.lemmas.Bool.{eq-eqb, eqb-true, false≢true, ltb-false, ltb-true}
use Rattle.std.proofs.lemmas.List.{get_or-set_other, get_or-set_same, get_or_past, length-set}
use Rattle.plain_orders.specs.declared.causes.ShutCause.{ShutCause}
use Rattle.plain_orders.specs.declared.causes.ShutCause.TheVariants as shuts
use Rattle.plain_orders.specs.declared.entry.Entry.{Entry}
use Rattle.plain_orders.specs.declared.entry.Entry.TheVariants.{Closed}
use Rattle.plain_orders.specs.Entries.{live_session, unless_closed}
use Rattle.plain_orders.specs.Ordered.{IsOrdered}
use Rattle.plain_orders.specs.Times.{until}
use Rattle.plain_orders.proofs.EntryLemmas.{live_session-push}
use Rattle.plain_orders.proofs.PastLemmas.{kept_open, ordered_past}
use Rattle.link_states.specs.declared.data_link.DataLink.{DataLink}
use Rattle.link_states.specs.declared.data_link.DataLink.TheVariants.{Free, Normal, Trouble, Recovering}
use Rattle.link_states.specs.declared.link_event.LinkEvent.TheVariants.{Ticked}
use Rattle.link_states.specs.Tables.{data_next}
use Rattle.data_rules.specs.declared.rows.Conn.{Conn}
use Rattle.data_rules.specs.declared.rows.Role.TheVariants.{Closing}
use Rattle.data_rules.specs.DataState.{DataState}
use Rattle.data_rules.specs.Conns.{is_conn, link_of, role_in, role_of, with_event, with_link}
use Rattle.data_rules.specs.Opening.{ends_among, with_end}
use Rattle.data_rules.specs.Places.{epoch_place}
use Rattle.data_rules.specs.Puts.{Sofar, becomes, conn_of, is_bound_to, number_of}
use Rattle.data_rules.specs.Saving.{cause_of, closes_late, hears_tick, is_free, ticks, ticks_end, ticks_one}
use Rattle.data_rules.specs.Messages.{is_awaited}
use Rattle.cluster_runs.specs.Machine.{Site}
use Rattle.cluster_invariant.specs.Dials.{NodeDials}
use Rattle.cluster_invariant.specs.Served.{HasLearnt}
use Rattle.cluster_invariant.proofs.Written.{closed_place}
use Rattle.dials_server.proofs.ClosedNodes.{conns_closed, node_closes, still_unbound, there_still}
use Rattle.dials_server.proofs.NodeConns.{node_same}
use Rattle.dials_server.proofs.PlainFrames.{PlainOn}
use Rattle.dials_server.proofs.TellsNodes.{tells_of}
use Rattle.dials_server.proofs.ClosesNodes.{ClosedBy, closed_by}

-- ends

-- a link fits the live session of its end
abbrev pub LinkFits : DataLink → ℕ → DataState → Type 0
LinkFits Free s n = ⊤
LinkFits Normal s n = ⊤
LinkFits (Trouble broke) s n = conn_of n s ≡ None
LinkFits (Recovering due) s n = s < epoch_place n.order

fits_same : (l : DataLink) (s : ℕ) (n m : DataState) → m.conns ≡ n.conns → m.order ≡ n.order → LinkFits l s n → LinkFits l s m
fits_same Free s n m conns order fits = tt
fits_same Normal s n m conns order fits = tt
fits_same (Trouble broke) s n m conns order fits = ap (λ (cs : List Conn). option_map number_of (find (is_bound_to s) cs)) conns ∙ fits
fits_same (Recovering due) s n m conns order fits = subst (λ (es : List Entry). s < epoch_place es) (sym order) fits

-- What holds between the ends' ticks.
pub record TickInv (z : Site) (n : DataState) (b : Sofar) : Type 0 where
  pub nodes : NodeDials z b.state
  pub frames : AllByRecursion (PlainOn z) b.outs.frames
  pub cuts : b.outs.cuts ≡ []
  pub noted : AllByRecursion (λ y. HasLearnt z y.session) b.state.noted
  pub links : (app s : ℕ) → live_session b.state.order app ≡ Some s → LinkFits (link_of b.state app) s b.state
  -- the same connections are there
  pub there : (k : ℕ) → is_some (role_of b.state k) ≡ is_some (role_of n k)

-- a link is set, or isn't there
set_at : (P : DataLink → Type 0) (xs : List DataLink) (i : ℕ) (v d : DataLink) → P v → P (get_or xs i d) → P (get_or (set xs i v) i d)
set_at P xs i v d here before = go (nat_lt i (length xs)) refl
  where
    go : (b : Bool) → nat_lt i (length xs) ≡ b → P (get_or (set xs i v) i d)
    go true low = subst P (sym (get_or-set_same xs i v d (ltb-true i (length xs) low))) here
    go false past =
        subst P (get_or_past xs i d (ltb-false i (length xs) past) ∙ sym (get_or_past (set xs i v) i d (omega (arith, ltb-false i (length xs) past, length-set xs i v)))) before

evented : (z : Site) (n : DataState) (b : Sofar) (app : ℕ) (v : DataLink) → ((s : ℕ) → live_session b.state.order app ≡ Some s → LinkFits v s b.state) → TickInv z n b
    → TickInv z n (becomes (with_link app v) b)
evented z n b app v fits inv = record {
  nodes = node_same z b.state (with_link app v b.state) refl refl refl inv.nodes;
  frames = inv.frames;
  cuts = inv.cuts;
  noted = inv.noted;
  links = λ a s has. fits_same (link_of (with_link app v b.state) a) s b.state (with_link app v b.state) refl refl (go a s has (a == app) refl);
  there = inv.there;
}
  where
    go : (a s : ℕ) → live_session b.state.order a ≡ Some s → (t : Bool) → (a == app) ≡ t → LinkFits (get_or (set b.state.links app v) a Free) s b.state
    go a s has true same =
        subst (λ (i : ℕ). live_session b.state.order i ≡ Some s → LinkFits (get_or (set b.state.links app v) i Free) s b.state) (sym (eqb-true a app same))
        (λ had. set_at (λ k. LinkFits k s b.state) b.state.links app v Free (fits s had) (inv.links app s had)) has
    go a s has false other =
        subst (λ (k : DataLink). LinkFits k s b.state) (sym (get_or-set_other b.state.links app a v Free (λ same. false≢true (sym other ∙ eq-eqb a app same)))) (inv.links a s has)

-- a session is closed
fits_closed : (z : Site) (b c : Sofar) (s q : ℕ) (l : DataLink) → ClosedBy z b c s → LinkFits l q b.state → LinkFits l q c.state
fits_closed z b c s q Free by fits = tt
fits_closed z b c s q Normal by fits = tt
fits_closed z b c s q (Trouble broke) by fits = ap (λ (cs : List Conn). option_map number_of (find (is_bound_to q) cs)) by.conns ∙ go (conn_of b.state s)
  where
    go : (o : Option ℕ) → option_map number_of (find (is_bound_to q) (conns_closed o s b.state.conns)) ≡ None
    go None = fits
    go (Some conn) = still_unbound conn (Closing s) q b.state.conns refl fits
fits_closed z b c s q (Recovering due) by fits = subst (λ (es : List Entry). q < epoch_place es) (sym by.order) (subst (λ (n : ℕ). q < n) (sym (closed_place s 0 0 b.state.order)) fits)

closed_inv : (z : Site) (n : DataState) (b c : Sofar) (s : ℕ) → ClosedBy z b c s → (is_some (conn_of b.state s) ≡ true → s < epoch_place b.state.order) → TickInv z n b → TickInv z n c
closed_inv z n b c s by before inv = record {
  nodes = node_closes z b.state c.state s (record { order = by.order; dials = by.dials; conns = by.conns; before = before }) inv.nodes;
  frames = by.frames inv.noted (tells_of z b.state inv.nodes) inv.frames;
  cuts = by.cuts ∙ inv.cuts;
  noted = by.noted inv.noted;
  links =
      λ app q has.
      subst (λ (ls : List DataLink). LinkFits (get_or ls app Free) q c.state) (sym by.links)
      (fits_closed z b c s q (link_of b.state app) by (inv.links app q (kept_open s q (live_session b.state.order app)
      (sym (live_session-push b.state.order (Closed s) app) ∙ ap (λ (es : List Entry). live_session es app) (sym by.order) ∙ has))));
  there = λ k. ap (λ (cs : List Conn). is_some (option_map role_in (find (is_conn k) cs))) by.conns ∙ go k (conn_of b.state s) ∙ inv.there k;
}
  where
    go : (k : ℕ) (o : Option ℕ) → is_some (option_map role_in (find (is_conn k) (conns_closed o s b.state.conns))) ≡ is_some (role_of b.state k)
    go k None = refl
    go k (Some conn) = there_still conn (Closing s) k b.state.conns

-- one end's tick
record TickedEnd (z : Site) (n : DataState) (b c : Sofar) (s : ℕ) : Type 0 where
  inv : TickInv z n c
  order : (c.state.order ≡ b.state.order) ⊎ (c.state.order ≡ b.state.order ++ Closed s ∷ [])

module _ (z : Site) (n : DataState) (app s now : ℕ) (b : Sofar) (has : live_session b.state.order app ≡ Some s) (inv : TickInv z n b) where
  -- the end outlasts it
  outlasts : (l : DataLink) → link_of b.state app ≡ l → data_next b.state.times now l Ticked ≡ l → TickedEnd z n b (becomes (with_event app now Ticked) b) s
  outlasts l its same = record {
    inv =
        evented z n b app (data_next b.state.times now (link_of b.state app) Ticked)
        (λ q had. subst (λ (k : DataLink). LinkFits k q b.state) (sym (ap (λ (k : DataLink). data_next b.state.times now k Ticked) its ∙ same ∙ sym its)) (inv.links app q had)) inv;
    order = inl refl;
  }

  -- its session is closed
  closed_end : (cause : ShutCause) (c : Sofar) → ClosedBy z b c s → (is_some (conn_of b.state s) ≡ true → s < epoch_place b.state.order)
      → TickedEnd z n b (becomes (with_event app now Ticked) c) s
  closed_end cause c by before = record {
    inv =
        evented z n c app (data_next c.state.times now (link_of c.state app) Ticked)
        (λ q had. (let both : ◌≡◌ {A = Option ℕ} None (Some q) = gone ∙ ap (λ (es : List Entry). live_session es app) (sym by.order) ∙ had in absurd cc))
        (closed_inv z n b c s by before inv);
    order = inr by.order;
  }
    where
      gone : None ≡ live_session (b.state.order ++ Closed s ∷ []) app
      gone =
          sym (live_session-push b.state.order (Closed s) app ∙ ap (unless_closed s) has ∙ ap (λ (t : Bool). if t then None else Some s) (eq-eqb s s refl))

  by_link : (l : DataLink) → link_of b.state app ≡ l → LinkFits l s b.state → (hears : Bool) → hears_tick l (is_awaited b.state s) ≡ hears → (t : Bool)
      → is_free (data_next b.state.times now l Ticked) ≡ t
      → TickedEnd z n b (if hears then becomes (with_event app now Ticked) (closes_late t s now (cause_of l now) b) else b) s
  by_link l its fits false deaf t free = record { inv = inv; order = inl refl }
  by_link Free its fits true hears t free = absurd (false≢true hears)
  by_link Normal its fits true hears true free = absurd (false≢true free)
  by_link Normal its fits true hears false free = outlasts Normal its refl
  by_link (Trouble broke) its fits true hears t free = go (nat_le (until broke b.state.times.trouble) now) refl t free
    where
      go : (late : Bool) → nat_le (until broke b.state.times.trouble) now ≡ late → (u : Bool) → is_free (if late then Free else Trouble broke) ≡ u
          → TickedEnd z n b (becomes (with_event app now Ticked) (closes_late u s now (shuts.Trouble now) b)) s
      go true late true is_free_now =
          closed_end (shuts.Trouble now) _ (closed_by z s (shuts.Trouble now) b) (λ there. absurd (false≢true (sym (ap is_some fits) ∙ there)))
      go true late false is_free_now = absurd (false≢true (sym is_free_now))
      go false early true is_free_now = absurd (false≢true is_free_now)
      go false early false is_free_now = outlasts (Trouble broke) its (ap (λ (y : Bool). if y then Free else Trouble broke) early)
  by_link (Recovering due) its fits true hears t free = go (nat_le due now) refl t free
    where
      go : (late : Bool) → nat_le due now ≡ late → (u : Bool) → is_free (if late then Free else Recovering due) ≡ u
          → TickedEnd z n b (becomes (with_event app now Ticked) (closes_late u s now (shuts.Round now) b)) s
      go true late true is_free_now = closed_end (shuts.Round now) _ (closed_by z s (shuts.Round now) b) (λ there. fits)
      go true late false is_free_now = absurd (false≢true (sym is_free_now))
      go false early true is_free_now = absurd (false≢true is_free_now)
      go false early false is_free_now = outlasts (Recovering due) its (ap (λ (y : Bool). if y then Free else Recovering due) early)

  ticked_end : TickedEnd z n b (ticks_one (record { app = app; session = s }) now b) s
  ticked_end = go (hears_tick (link_of b.state app) (is_awaited b.state s)) refl
    where
      go : (hears : Bool) → hears_tick (link_of b.state app) (is_awaited b.state s) ≡ hears → TickedEnd z n b (ticks_end hears app s now b) s
      go true hears =
          by_link (link_of b.state app) refl (inv.links app s has) true hears (is_free (data_next b.state.times now (link_of b.state app) Ticked)) refl
      go false deaf = record { inv = inv; order = inl refl }

-- All ends' ticks.
pub ticks_keep : (z : Site) (n : DataState) (es : List Entry) → IsOrdered es → (now a k : ℕ) (b : Sofar) → ((app : ℕ) → a ≤ app → live_session b.state.order app ≡ live_session es app)
    → TickInv z n b → TickInv z n (ticks (ends_among (range_with_len a k) es) now b)
ticks_keep z n es ordered now a zero b same inv = inv
ticks_keep z n es ordered now a (suc k) b same inv =
    go (live_session es a) refl (ticks_keep z n es ordered now (a + 1) k)
  where
    Rest : Type 0
    Rest =
        (c : Sofar) → ((app : ℕ) → a + 1 ≤ app → live_session c.state.order app ≡ live_session es app) → TickInv z n c
        → TickInv z n (ticks (ends_among (range_with_len (a + 1) k) es) now c)

    -- a session that is closed is no other end's
    others : (s : ℕ) → live_session es a ≡ Some s → (app : ℕ) → a + 1 ≤ app → (o : Option ℕ) → live_session es app ≡ o → unless_closed s o ≡ o
    others s its app above None had = refl
    others s its app above (Some q) had = by (q == s) refl
      where
        by : (t : Bool) → (q == s) ≡ t → (if t then None else Some q) ≡ Some q
        by true equal =
            absurd (let one : a ≡ app = (ordered_past es ordered).has_one a app s its (had ∙ ap (λ (i : ℕ). Some i) (eqb-true q s equal)) in omega (arith, one, above))
        by false apart = refl

    go : (o : Option ℕ) → live_session es a ≡ o → Rest → TickInv z n (ticks (with_end o a (ends_among (range_with_len (a + 1) k) es)) now b)
    go None its rest = rest b (λ app above. same app (omega (arith, above))) inv
    go (Some s) its rest = by (ticked_end z n a s now b (same a (omega arith) ∙ its) inv)
      where
        by : TickedEnd z n b (ticks_one (record { app = a; session = s }) now b) s
            → TickInv z n (ticks (ends_among (range_with_len (a + 1) k) es) now (ticks_one (record { app = a; session = s }) now b))
        by t = rest (ticks_one (record { app = a; session = s }) now b) (λ app above. keeps app above t.order) t.inv
          where
            keeps : (app : ℕ) → a + 1 ≤ app
                → ((ticks_one (record { app = a; session = s }) now b).state.order ≡ b.state.order)
                ⊎ ((ticks_one (record { app = a; session = s }) now b).state.order ≡ b.state.order ++ Closed s ∷ [])
                → live_session (ticks_one (record { app = a; session = s }) now b).state.order app ≡ live_session es app
            keeps app above (inl order) = ap (λ (xs : List Entry). live_session xs app) order ∙ same app (omega (arith, above))
            keeps app above (inr order) =
                ap (λ (xs : List Entry). live_session xs app) order ∙ live_session-push b.state.order (Closed s) app
                ∙ ap (unless_closed s) (same app (omega (arith, above))) ∙ others s its app above (live_session es app) refl
