-- The part on connections, for a connection that an application server made: its first frame says what the end knows.
use Rattle.std.proofs.Common.{◌≡◌, ◌≢◌, ◌≤◌, ◌+◌, ℕ, Bool, true, false, not, ◌==◌, List, [], ◌∷◌, Option, Some, None, is_some, option_map, if◌then◌else◌, refl, sym, ◌∙◌, ap, subst, arith}
use Rattle.std.specs.Prelude.{IfSome, unwrap_or}
use Rattle.std.specs.List.{list_any}
use Rattle.std.proofs.lemmas.Bool.{false≢true, eqb-true, eq-eqb}
use Rattle.plain_orders.specs.declared.act.Act.{Act}
use Rattle.plain_orders.specs.declared.layout.Layout.{Layout}
use Rattle.plain_runs.specs.Plain.{Server, current}
use Rattle.plain_runs.specs.Run.{IsRun, after_all, state_after}
use Rattle.link_states.specs.declared.app_link.AppLink.{AppLink}
use Rattle.link_states.specs.declared.app_link.AppLink.TheVariants.{NotConnected, Normal as NormalLink, Trouble, Recovery}
use Rattle.ecp_messages.specs.declared.up.Up.{Up}
use Rattle.ecp_messages.specs.declared.up.Up.TheVariants.{Hello, Recover}
use Rattle.ecp_messages.specs.declared.up.UpFrame.{UpFrame}
use Rattle.app_rules.specs.declared.app_in.AppIn.TheVariants as app_in
use Rattle.app_rules.specs.declared.app_outs.AppOuts.{AppOuts}
use Rattle.app_rules.specs.declared.line.Line.TheVariants.{Trying}
use Rattle.app_rules.specs.AppState.{AppState, AppEnd, Session, no_session}
use Rattle.app_rules.specs.AppStep.{AppMay, made}
use Rattle.app_rules.specs.Looks.{Shown}
use Rattle.app_rules.specs.Losing.{connected_from, with_dial}
use Rattle.app_rules.specs.Works.{Sofar, becomes, begun, end_at, with_window}
use Rattle.app_rules.proofs.StepLaws.{steps_at_one_end}
use Rattle.end_words.specs.Windows.{with_ack_put}
use Rattle.cluster_runs.specs.declared.move_outs.MoveOuts.{MoveOuts}
use Rattle.cluster_runs.specs.declared.moves.Move.TheVariants.{App}
use Rattle.cluster_runs.specs.CoresState.{CoresState}
use Rattle.cluster_runs.specs.Moves.{Allowed}
use Rattle.cluster_runs.specs.Mirrors.{Mirrors}
use Rattle.cluster_runs.specs.Sent.{Connection, Knew, Mark, Place}
use Rattle.cluster_runs.specs.Machine.{Machine, Site, End, app_state, end_state}
use Rattle.cluster_runs.specs.Connections.{knows, knows_of, at_number, carries_up, fresh_connection, is_index, leaves_if, ups_to, with_connection, with_ups}
use Rattle.cluster_runs.specs.Goes.{AppGoes, app_end, app_site, with_state}
use Rattle.cluster_runs.specs.Lanes.{is_told_new, told_by}
use Rattle.cluster_invariant.specs.Dials.{DialsAre, PairDials, KnewIs, first_frame, taken_in}
use Rattle.cluster_invariant.specs.Ends.{EndsAre, ToldPlace, has_session, stands}
use Rattle.cluster_invariant.specs.Holds.{Holds}
use Rattle.cluster_invariant.specs.Link.{LinkHolds}
use Rattle.cluster_invariant.specs.Words.{NoLess, has_wire}
use Rattle.cluster_invariant.proofs.Small.{some_kept}
use Rattle.cluster_steps.proofs.AppSites.{app_ends, site_ends}
use Rattle.cluster_steps.proofs.InputEnds.{ConnectedCame, connected_came, hello_frame, recover_frame}
use Rattle.cluster_steps.proofs.JobEnds.{up_elsewhere}
use Rattle.ends_kept.proofs.TablesMoves.{app_may}
use Rattle.dials_kept.proofs.ConnectionsGrow.{StaysKnown, GrowTo, message_later, no_less_same}
use Rattle.dials_kept.proofs.NodesGrow.{SameNode}
use Rattle.dials_kept.proofs.ShortDials.{EachDials}
use Rattle.dials_kept.proofs.QuietEnds.{TookMore, dials_with_end, quiet_site}
use Rattle.dials_kept.proofs.QuietMoves.{QuietEnd, dials_quiet_at, quiet_same}
use Rattle.dials_kept.proofs.AppInputs.{dials_by_app}
use Rattle.dials_kept.proofs.JobDials.{lane_taken}
use Rattle.dials_kept.proofs.MadeConnections.{knows_is}
use Rattle.dials_kept.proofs.ConnectedPairs.{MadeNext, grow_made, pair_made, with_made}

-- a session, and whether a frame went out with what it took
abbrev acked_if : Bool → Option Session → Option Session
acked_if true o = option_map (with_window with_ack_put) o
acked_if false o = o

no_news_of : (b : Bool) (o : Option Session) → is_told_new o (acked_if b o) ≡ false
no_news_of true None = refl
no_news_of true (Some s) = ap not (eq-eqb s.epoch s.epoch refl)
no_news_of false None = refl
no_news_of false (Some s) = ap not (eq-eqb s.epoch s.epoch refl)

knows_acked : (b : Bool) (o : Option Session) (p : Option Place) (told : ℕ) → knows_of (acked_if b o) p told ≡ knows_of o p told
knows_acked true None p told = refl
knows_acked true (Some s) None told = refl
knows_acked true (Some s) (Some p) told = refl
knows_acked false o p told = refl

took_acked : (x : Site) (b : Bool) (o : Option Session) (p : Option Place)
    → IfSome o (λ s. IfSome p (λ z. (z.session ≡ s.number) × (s.window.taken ≡ (x.lane_at s.number z.order).down_taken))) → TookMore x (acked_if b o) p
took_acked x b o None is = tt
took_acked x true None (Some p) is = tt
took_acked x true (Some s) (Some p) is = subst (λ (n : ℕ). (x.lane_at n p.order).down_taken ≤ s.window.taken) (sym is.0) (omega (arith, is.1))
took_acked x false None (Some p) is = tt
took_acked x false (Some s) (Some p) is = subst (λ (n : ℕ). (x.lane_at n p.order).down_taken ≤ s.window.taken) (sym is.0) (omega (arith, is.1))

-- What a connection makes of its end: the next number, and the first frame by what it knows.
record MakesOne (v : Server) (app d : ℕ) (e : End) (t : AppEnd) (outs : AppOuts) : Type 0 where
  dial : t.dial ≡ e.state.dial + 1
  wire : has_wire t.line ≡ true
  told : t.told ≡ e.state.told
  acked : Bool
  session : t.session ≡ acked_if acked e.state.session
  frames : ups_to d outs.frames ≡ first_frame v app (e.state.dial + 1) (knows e) ∷ []
  cuts : outs.cuts ≡ []

-- its first frame

hello_first : (v : Server) (app dial told : ℕ) (o : Option Session) (p : Option Place) → is_some o ≡ false
    → record { seq = 0; ack = 0; message = Hello app dial } ≡ first_frame v app dial (knows_of o p told)
hello_first v app dial told None p none = refl
hello_first v app dial told (Some s) p none = absurd (false≢true (sym none))

-- what is said of a session that is asked for
abbrev recover_of : ℕ → ℕ → Session → UpFrame
recover_of app dial s = record { seq = 0; ack = s.window.taken; message = Recover app s.number s.epoch s.window.taken dial }

recover_first : (v : Server) (app dial told : ℕ) (o : Option Session) (p : Option Place) → is_some o ≡ true → IfSome o (λ s. ToldPlace v app s p)
    → recover_of app dial (unwrap_or o no_session) ≡ first_frame v app dial (knows_of o p told)
recover_first v app dial told None p there place = absurd (false≢true there)
recover_first v app dial told (Some s) p there place =
    subst (λ (q : Option Place). recover_of app dial s ≡ first_frame v app dial (knows_of (Some s) q told)) (sym place.its)
    (ap (λ (n : ℕ). record { seq = 0; ack = s.window.taken; message = Recover app s.number n s.window.taken dial }) place.epoch)

makes_one : (v : Server) (app d now : ℕ) (e : End) (a : AppState) (c : Sofar) (link : AppLink) → e.state.link ≡ link → a.app ≡ app → e.state.line ≡ Trying
    → stands e.state.link e.state.line ≡ true → has_session e.state.link ≡ is_some e.state.session → IfSome e.state.session (λ s. ToldPlace v app s e.told)
    → ConnectedCame link d now e.state (begun a) c → MakesOne v app d e (end_at c.state d) c.outs
makes_one v app d now e a c NotConnected is its line stood has place came = record {
  dial = ap (λ (t : AppEnd). t.dial) came.end;
  wire = ap (λ (t : AppEnd). has_wire t.line) came.end;
  told = ap (λ (t : AppEnd). t.told) came.end;
  acked = false;
  session = ap (λ (t : AppEnd). t.session) came.end;
  frames =
      came.frames
      ∙ ap (λ (f : UpFrame). f ∷ [])
      (ap (λ (n : ℕ). hello_frame n e.state) its
      ∙ hello_first v app (e.state.dial + 1) e.state.told e.state.session e.told (sym (sym (ap has_session is) ∙ has)));
  cuts = came.cuts;
}
makes_one v app d now e a c NormalLink is its line stood has place came =
    absurd (false≢true (sym (ap (λ (k : AppLink). stands k e.state.line) is ∙ ap (stands NormalLink) line) ∙ stood))
makes_one v app d now e a c (Trouble broke try_at) is its line stood has place came = record {
  dial = ap (λ (t : AppEnd). t.dial) came.end;
  wire = ap (λ (t : AppEnd). has_wire t.line) came.end;
  told = ap (λ (t : AppEnd). t.told) came.end;
  acked = true;
  session = ap (λ (t : AppEnd). t.session) came.end;
  frames =
      came.frames
      ∙ ap (λ (f : UpFrame). f ∷ [])
      (ap (λ (n : ℕ). recover_frame n e.state) its
      ∙ recover_first v app (e.state.dial + 1) e.state.told e.state.session e.told (sym (sym (ap has_session is) ∙ has)) place);
  cuts = came.cuts;
}
makes_one v app d now e a c Recovery is its line stood has place came =
    absurd (false≢true (sym (ap (λ (k : AppLink). stands k e.state.line) is ∙ ap (stands Recovery) line) ∙ stood))

-- a fresh connection on which something is put
joined_fresh : (t : AppEnd) (shown : Shown) (e : End) (g : Connection → Connection)
    → at_number t.dial g (with_state t shown (with_connection t.dial e))
    ≡ record (with_state t shown e) { connection_at = λ n. if n == t.dial then Some (g (fresh_connection (knows e))) else e.connection_at n }
joined_fresh t shown e g = ap (λ (f : ℕ → Option Connection). record (with_state t shown e) { connection_at = f }) (λ i n. point n i)
  where
    point : (n : ℕ)
        → (if n == t.dial then option_map g (if n == t.dial then Some (fresh_connection (knows e)) else e.connection_at n)
        else (if n == t.dial then Some (fresh_connection (knows e)) else e.connection_at n))
        ≡ (if n == t.dial then Some (g (fresh_connection (knows e))) else e.connection_at n)
    point n = go (n == t.dial)
      where
        go : (b : Bool)
            → (if b then option_map g (if b then Some (fresh_connection (knows e)) else e.connection_at n)
            else (if b then Some (fresh_connection (knows e)) else e.connection_at n))
            ≡ (if b then Some (g (fresh_connection (knows e))) else e.connection_at n)
        go true = refl
        go false = refl

-- The data server to which it was made.
dials_made_at : (v w : Server) (x : Site) (dead : ℕ → Bool) (app d : ℕ) (outs : AppOuts) (t : AppEnd) (shown : Shown) → dead app ≡ false → EndsAre v x dead
    → LinkHolds v x dead → MakesOne v app d (x.end_at app) t outs → (x.end_at app).state.line ≡ Trying → StaysKnown v w → DialsAre v x dead
    → DialsAre w
    (app_site app d outs (x.end_at app).state t None
    (app_end d outs (x.end_at app).state t shown None (with_connection ((x.end_at app).state.dial + 1) (x.end_at app))) x) dead
dials_made_at v w x dead app d outs t shown alive ends link one line later is =
    dials_with_end v w x y dead app f (site_ends app d outs e.state t None f x) same later
    (subst (λ (z : End). (number : ℕ) → GrowTo x w y app number e (e.connection_at number) (z.connection_at number)) (sym moved)
    (grow_made v w x y later same app (dead app) e t shown next knew (is.pairs app)))
    (subst (λ (z : End). NoLess (knows e) (knows z)) (sym moved) (subst (λ (k : Knew). NoLess (knows e) k) (sym next.knows) (no_less_same (knows e))))
    (subst (λ (z : End). PairDials w y (dead app) app z) (sym moved)
    (subst (λ (b : Bool). PairDials w y b app (with_made w app t shown e)) (sym alive)
    (pair_made v w x y later same app e t shown next knew (subst (λ (b : Bool). PairDials v x b app e) alive (is.pairs app))))) is
  where
    e : End
    e = x.end_at app

    came : End
    came = with_connection (e.state.dial + 1) e

    f : End
    f = app_end d outs e.state t shown None came

    y : Site
    y = app_site app d outs e.state t None f x

    nothing : is_told_new e.state.session t.session ≡ false
    nothing = ap (is_told_new e.state.session) one.session ∙ no_news_of one.acked e.state.session

    next : MadeNext e t shown
    next = record {
      dial = one.dial;
      trying = ap has_wire line;
      wire = one.wire;
      knows =
          ap (λ (o : Option Session). knows_of o e.told t.told) one.session ∙ ap (λ (n : ℕ). knows_of (acked_if one.acked e.state.session) e.told n) one.told
          ∙ knows_acked one.acked e.state.session e.told e.state.told;
    }

    knew : IfSome (knows e).mark (KnewIs v x app (knows e).session)
    knew = knows_is v x app e.state.session e.told e.state.told (ends.told app alive).place (link.apps app alive).window (link.apps app alive).begun

    frame : first_frame v app (e.state.dial + 1) (knows e) ≡ first_frame w app t.dial (knows e)
    frame =
        ap (λ (n : ℕ). first_frame v app n (knows e)) (sym one.dial)
        ∙ ap (λ (m : Up). record { seq = 0; ack = taken_in (knows e).mark; message = m })
        (sym (message_later v w later app t.dial (knows e).session (knows e).mark
        (some_kept (KnewIs v x app (knows e).session) (λ (m : Mark). m.order ≤ current v) (λ (m : Mark) k. k.there) (knows e).mark knew)))

    moved : f ≡ with_made w app t shown e
    moved =
        ap (λ (b : Bool). carries_up d t.dial outs.frames outs.cuts (told_by b None e.state.dial (with_state t shown came))) nothing
        ∙ ap (λ (us : List UpFrame). at_number t.dial (λ z. leaves_if (list_any (is_index d) outs.cuts) (with_ups us z)) (with_state t shown came))
        (one.frames ∙ ap (λ (u : UpFrame). u ∷ []) frame)
        ∙ ap (λ (cs : List ℕ). at_number t.dial (λ z. leaves_if (list_any (is_index d) cs) (with_ups (first_frame w app t.dial (knows e) ∷ []) z)) (with_state t shown came))
        one.cuts
        ∙ ap (λ (n : ℕ). at_number t.dial (with_ups (first_frame w app t.dial (knows e) ∷ [])) (with_state t shown (with_connection n e))) (sym one.dial)
        ∙ joined_fresh t shown e (with_ups (first_frame w app t.dial (knows e) ∷ []))

    same : SameNode x y
    same =
        quiet_site app d outs e.state t None f x nothing
        (subst (λ (o : Option Place). TookMore x t.session o) (sym (ap (λ (z : End). z.told) moved))
        (subst (λ (o : Option Session). TookMore x o e.told) (sym one.session)
        (took_acked x one.acked e.state.session e.told
        (lane_taken v x app e.state.session e.told (ends.told app alive).place (link.apps app alive).window))))

-- what goes to the others
elsewhere : (link : AppLink) (d k now : ℕ) (b : Sofar) → d ≢ k → ups_to k (connected_from link d now b).outs.frames ≡ ups_to k b.outs.frames
elsewhere NotConnected d k now b other = up_elsewhere k b.outs.frames _ other
elsewhere NormalLink d k now b other = up_elsewhere k b.outs.frames _ other
elsewhere (Trouble broke try_at) d k now b other = up_elsewhere k b.outs.frames _ other
elsewhere Recovery d k now b other = up_elsewhere k b.outs.frames _ other

-- A connection that was made keeps it.
pub dials_kept_by_connected : (l : Layout) (c : CoresState) (m : Machine) (app now d : ℕ) (outs : MoveOuts) (written : List Act) (new : Machine)
    → Holds l m → IsRun l m.trail → Mirrors c m → Allowed c (App app now (app_in.Connected d)) → AppGoes m app now (app_in.Connected d) outs written new
    → EachDials l (state_after l new.trail) new
dials_kept_by_connected l c m app now d outs written new h run shows allowed goes =
    dials_by_app l c m app now (app_in.Connected d) outs written new h run shows allowed goes (λ k later. each k later (d == k) refl)
  where
    a : AppState
    a = app_state m app

    w : ℕ → Server
    w k = (after_all l (state_after l m.trail) goes.app_outs.acts).server_at k

    e : ℕ → End
    e k = (m.site_at k).end_at app

    alive : m.is_dead_at app ≡ false
    alive = sym (shows.dead app) ∙ allowed.alive

    may : AppMay a (app_in.Connected d)
    may = app_may c m app (app_in.Connected d) shows allowed.known allowed.may

    here : end_at a d ≡ end_state m app d
    here = app_ends c m app d shows allowed.known

    trying : (end_state m app d).line ≡ Trying
    trying = sym (ap (λ (t : AppEnd). t.line) here) ∙ may.tried

    came : ConnectedCame (end_state m app d).link d now (end_state m app d) (begun a) (made goes.state goes.app_outs)
    came =
        subst (λ (t : AppEnd). ConnectedCame t.link d now t (begun a) (made goes.state goes.app_outs)) here
        (subst (λ (b : Sofar). ConnectedCame (end_at a d).link d now (end_at a d) (begun a) b) (sym goes.steps) (connected_came d now (begun a) may.known))

    one : MakesOne ((state_after l m.trail).server_at d) app d (e d) (end_at goes.state d) goes.app_outs
    one =
        makes_one ((state_after l m.trail).server_at d) app d now (e d) a (made goes.state goes.app_outs) (end_state m app d).link refl refl trying
        ((h.sites d).ends.tables app alive).stands ((h.sites d).ends.tables app alive).connected ((h.sites d).ends.told app alive).place came

    Part : ℕ → End → Type 0
    Part k z =
        DialsAre (w k)
        (app_site app k goes.app_outs (end_state m app k) (end_at goes.state k) None
        (app_end k goes.app_outs (end_state m app k) (end_at goes.state k) (goes.shown k) None z) (m.site_at k)) m.is_dead_at

    there : StaysKnown ((state_after l m.trail).server_at d) (w d) → Part d (with_connection ((e d).state.dial + 1) (e d))
    there later =
        dials_made_at ((state_after l m.trail).server_at d) (w d) (m.site_at d) m.is_dead_at app d goes.app_outs (end_at goes.state d) (goes.shown d) alive
        (h.sites d).ends (h.sites d).link one trying later (h.sites d).dials

    each : (k : ℕ) → StaysKnown ((state_after l m.trail).server_at k) (w k) → (b : Bool) → (d == k) ≡ b
        → Part k (if b then with_connection ((e k).state.dial + 1) (e k) else e k)
    each k later true is =
        subst (λ (n : ℕ). StaysKnown ((state_after l m.trail).server_at n) (w n) → Part n (with_connection ((e n).state.dial + 1) (e n))) (eqb-true d k is)
        there later
    each k later false is =
        dials_quiet_at ((state_after l m.trail).server_at k) (w k) (m.site_at k) m.is_dead_at app k goes.app_outs (end_at goes.state k) (goes.shown k) None
        alive (h.sites k).ends (h.sites k).link
        (ap (λ (b : Sofar). ups_to k b.outs.frames) goes.steps
        ∙ elsewhere (end_at a d).link d k now (becomes d with_dial (begun a)) (λ same. other (sym same))) (ap (list_any (is_index k)) one.cuts)
        (subst (λ (t : AppEnd). QuietEnd t (end_at goes.state k)) (app_ends c m app k shows allowed.known)
        (subst (λ (t : AppEnd). QuietEnd (end_at a k) t)
        (sym ((steps_at_one_end a goes.state now (app_in.Connected d) goes.app_outs goes.steps).1 k other)) (quiet_same (end_at a k)))) later
        (h.sites k).dials
      where
        other : k ≢ d
        other same = false≢true (sym is ∙ eq-eqb d k (sym same))
