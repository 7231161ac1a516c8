-- The part on connections, for an application server's input that puts nothing: its ends know what they knew, or lost a session.
use Rattle.std.proofs.Common.{◌≡◌, ◌⊎◌, ◌≤◌, ℕ, Bool, true, false, not, ◌==◌, List, [], Option, Some, None, option_map, if◌then◌else◌, refl, sym, ◌∙◌, ap, subst, arith, inl, inr}
use Rattle.std.specs.Prelude.{IfSome}
use Rattle.std.specs.List.{list_any}
use Rattle.std.proofs.lemmas.Bool.{false≢true, eq-eqb}
use Rattle.std.proofs.lemmas.List.{append-nil}
use Rattle.plain_orders.specs.declared.act.Act.{Act}
use Rattle.plain_orders.specs.declared.layout.Layout.{Layout}
use Rattle.plain_runs.specs.Plain.{Server}
use Rattle.plain_runs.specs.Run.{IsRun, after_all, state_after}
use Rattle.ecp_messages.specs.declared.up.UpFrame.{UpFrame}
use Rattle.ecp_messages.specs.declared.down.Down.{Down}
use Rattle.app_rules.specs.declared.app_in.AppIn.{AppIn}
use Rattle.app_rules.specs.declared.line.Line.{Line}
use Rattle.app_rules.specs.declared.line.Line.TheVariants.{Apart, Trying, Greeting, Asking, Joined}
use Rattle.app_rules.specs.declared.app_outs.AppOuts.{AppOuts}
use Rattle.app_rules.specs.AppState.{AppEnd, Session}
use Rattle.app_rules.specs.Looks.{Shown}
use Rattle.app_rules.specs.Works.{end_at}
use Rattle.cluster_runs.specs.declared.move_outs.MoveOuts.{MoveOuts}
use Rattle.cluster_runs.specs.declared.moves.Move.TheVariants.{App}
use Rattle.cluster_runs.specs.CoresState.{CoresState}
use Rattle.cluster_runs.specs.Moves.{Allowed}
use Rattle.cluster_runs.specs.Mirrors.{Mirrors}
use Rattle.cluster_runs.specs.Sent.{Connection, Knew, Place}
use Rattle.cluster_runs.specs.Machine.{Machine, Site, End, end_state}
use Rattle.cluster_runs.specs.Connections.{knows, knows_of, with_ups, carries_up, at_number, is_index, leaves_if, ups_to}
use Rattle.cluster_runs.specs.Goes.{AppGoes, app_end, app_site, app_takes, message_from, with_state}
use Rattle.cluster_runs.specs.Lanes.{is_told_new, told_by}
use Rattle.cluster_invariant.specs.Dials.{DialsAre, KnowsStill}
use Rattle.cluster_invariant.specs.Ends.{EndsAre}
use Rattle.cluster_invariant.specs.Holds.{Holds}
use Rattle.cluster_invariant.specs.Link.{LinkHolds}
use Rattle.cluster_invariant.specs.Words.{NoLess, is_wire, has_wire}
use Rattle.dials_kept.proofs.ConnectionsGrow.{StaysKnown, no_less_same}
use Rattle.dials_kept.proofs.AppInputs.{Passes, dials_by_app, dials_with_change, passes_grows}
use Rattle.dials_kept.proofs.ShortDials.{EachDials, still_mapped}
use Rattle.dials_kept.proofs.QuietEnds.{TookMore, Changes, changed}
use Rattle.dials_kept.proofs.JobDials.{lane_taken}

-- An end that took nothing: it has the connection that it had, or none as before, and its session, or lost it.
pub record QuietEnd (e t : AppEnd) : Type 0 where
  pub dial : t.dial ≡ e.dial
  pub told : t.told ≡ e.told
  pub session : (t.session ≡ e.session) ⊎ (t.session ≡ None)
  pub wire : has_wire t.line ≡ has_wire e.line
  pub line : ((t.line ≡ e.line) × (t.session ≡ e.session)) ⊎ (has_wire t.line ≡ false)

pub quiet_same : (e : AppEnd) → QuietEnd e e
quiet_same e = record { dial = refl; told = refl; session = inl refl; wire = refl; line = inl (refl, refl) }

-- one after the other
pub quiet_then : (e f g : AppEnd) → QuietEnd e f → QuietEnd f g → QuietEnd e g
quiet_then e f g x y = record { dial = y.dial ∙ x.dial; told = y.told ∙ x.told; session = sessions x.session y.session; wire = y.wire ∙ x.wire; line = lines x.line y.line }
  where
    sessions : (f.session ≡ e.session) ⊎ (f.session ≡ None) → (g.session ≡ f.session) ⊎ (g.session ≡ None) → (g.session ≡ e.session) ⊎ (g.session ≡ None)
    sessions (inl a) (inl b) = inl (b ∙ a)
    sessions (inr a) (inl b) = inr (b ∙ a)
    sessions a (inr b) = inr b

    lines : ((f.line ≡ e.line) × (f.session ≡ e.session)) ⊎ (has_wire f.line ≡ false) → ((g.line ≡ f.line) × (g.session ≡ f.session)) ⊎ (has_wire g.line ≡ false)
        → ((g.line ≡ e.line) × (g.session ≡ e.session)) ⊎ (has_wire g.line ≡ false)
    lines (inl a) (inl b) = inl (b.0 ∙ a.0, b.1 ∙ a.1)
    lines (inr a) (inl b) = inr (y.wire ∙ a)
    lines a (inr b) = inr b

-- what it knows

pub knows_quiet : (o q : Option Session) (p : Option Place) (told later : ℕ) → later ≡ told → (q ≡ o) ⊎ (q ≡ None) → IfSome o (λ s. s.number ≡ told)
    → NoLess (knows_of o p told) (knows_of q p later)
knows_quiet o q p told later same (inl kept) newest =
    subst (λ (k : Knew). NoLess (knows_of o p told) k)
    (sym (ap (λ (z : Option Session). knows_of z p later) kept ∙ ap (λ (n : ℕ). knows_of o p n) same)) (no_less_same (knows_of o p told))
knows_quiet o q p told later same (inr lost) newest =
    subst (λ (z : Option Session). NoLess (knows_of o p told) (knows_of z p later)) (sym lost)
    (subst (λ (n : ℕ). NoLess (knows_of o p told) (record { session = n; mark = None })) (sym same) (go o p newest))
  where
    go : (z : Option Session) (r : Option Place) → IfSome z (λ s. s.number ≡ told) → NoLess (knows_of z r told) (record { session = told; mark = None })
    go None r is = inr (refl, tt)
    go (Some s) None is = inr (is, tt)
    go (Some s) (Some z) is = inr (is, tt)

pub none_new : (o q : Option Session) → (q ≡ o) ⊎ (q ≡ None) → is_told_new o q ≡ false
none_new o q (inl same) = subst (λ (z : Option Session). is_told_new o z ≡ false) (sym same) (go o)
  where
    go : (z : Option Session) → is_told_new z z ≡ false
    go None = refl
    go (Some s) = ap not (eq-eqb s.epoch s.epoch refl)
none_new o q (inr lost) = subst (λ (z : Option Session). is_told_new o z ≡ false) (sym lost) (go o)
  where
    go : (z : Option Session) → is_told_new z None ≡ false
    go None = refl
    go (Some s) = refl

pub took_quiet : (x : Site) (o q : Option Session) (p : Option Place) → (q ≡ o) ⊎ (q ≡ None)
    → IfSome o (λ s. IfSome p (λ z. (z.session ≡ s.number) × (s.window.taken ≡ (x.lane_at s.number z.order).down_taken))) → TookMore x q p
took_quiet x o q p (inl same) is = subst (λ (z : Option Session). TookMore x z p) (sym same) (go o p is)
  where
    go : (z : Option Session) (r : Option Place) → IfSome z (λ s. IfSome r (λ y. (y.session ≡ s.number) × (s.window.taken ≡ (x.lane_at s.number y.order).down_taken)))
        → TookMore x z r
    go z None at = tt
    go None (Some r) at = tt
    go (Some s) (Some r) at = subst (λ (n : ℕ). (x.lane_at n r.order).down_taken ≤ s.window.taken) (sym at.0) (omega (arith, at.1))
took_quiet x o q p (inr lost) is = subst (λ (z : Option Session). TookMore x z p) (sym lost) (go p)
  where
    go : (r : Option Place) → TookMore x None r
    go None = tt
    go (Some r) = tt

pub wireless_still : (line : Line) (k : Knew) (o : Option Connection) → has_wire line ≡ false → KnowsStill line k o
wireless_still Apart k o is = tt
wireless_still Trying k o is = tt
wireless_still Greeting k o is = absurd (false≢true (sym is))
wireless_still Asking k o is = absurd (false≢true (sym is))
wireless_still Joined k o is = tt

pub wire_quiet : (e t : AppEnd) → QuietEnd e t → (dead : Bool) → is_wire dead t t.dial ≡ is_wire dead e t.dial
wire_quiet e t q true = refl
wire_quiet e t q false =
    ap (λ (b : Bool). if b then t.dial == t.dial else false) q.wire ∙ ap (λ (n : ℕ). if has_wire e.line then t.dial == n else false) q.dial

-- a connection that is as it was
pub passes_same : (z : Connection) → Passes z z
passes_same z = record {
  ups = refl;
  ups_taken = refl;
  downs = refl;
  within = λ low. low;
  linked = refl;
  its = refl;
  knew = refl;
  first = refl;
  data_left = refl;
}

-- One data server's part stays, where an input takes and puts nothing there and cuts nothing.
pub dials_quiet_at : (v w : Server) (x : Site) (dead : ℕ → Bool) (app d : ℕ) (outs : AppOuts) (t : AppEnd) (shown : Shown) (m : Option Down) → dead app ≡ false
    → EndsAre v x dead → LinkHolds v x dead → ups_to d outs.frames ≡ [] → list_any (is_index d) outs.cuts ≡ false → QuietEnd (x.end_at app).state t → StaysKnown v w
    → DialsAre v x dead → DialsAre w (app_site app d outs (x.end_at app).state t m (app_end d outs (x.end_at app).state t shown m (x.end_at app)) x) dead
dials_quiet_at v w x dead app d outs t shown m alive ends link frames cuts quiet later is =
    dials_with_change v w x dead app d outs t shown m e g moved nothing
    (took_quiet x e.state.session t.session e.told quiet.session
    (lane_taken v x app e.state.session e.told (ends.told app alive).place (link.apps app alive).window)) quiet.dial
    (knows_quiet e.state.session t.session e.told e.state.told t.told quiet.told quiet.session (ends.told app alive).newest)
    (λ y same. puts y same (e.connection_at t.dial) ((is.pairs app).left t.dial)) (still quiet.line) later is
  where
    e : End
    e = x.end_at app

    g : Connection → Connection
    g = with_ups []

    nothing : is_told_new e.state.session t.session ≡ false
    nothing = none_new e.state.session t.session quiet.session

    moved : app_end d outs e.state t shown m e ≡ changed g t shown e
    moved =
        ap (λ (b : Bool). carries_up d t.dial outs.frames outs.cuts (told_by b m e.state.dial (with_state t shown e))) nothing
        ∙ ap (λ (us : List UpFrame). at_number t.dial (λ z. leaves_if (list_any (is_index d) outs.cuts) (with_ups us z)) (with_state t shown e)) frames
        ∙ ap (λ (b : Bool). at_number t.dial (λ z. leaves_if b (with_ups [] z)) (with_state t shown e)) cuts

    puts : (y : Site) → y.connection_at ≡ x.connection_at → (o : Option Connection) → IfSome o (λ z. z.app_left ≡ not (is_wire (dead app) e.state t.dial))
        → IfSome o (Changes x y (dead app) g t e)
    puts y same None left = tt
    puts y same (Some z) left = record {
      grows = passes_grows x y same false [] z z (passes_same z) refl (λ none. refl);
      left = left ∙ ap not (sym (wire_quiet e.state t quiet (dead app)));
    }

    still : ((t.line ≡ e.state.line) × (t.session ≡ e.state.session)) ⊎ (has_wire t.line ≡ false)
        → KnowsStill t.line (knows (with_state t shown e)) (option_map g (e.connection_at t.dial))
    still (inr none) = wireless_still t.line (knows (with_state t shown e)) (option_map g (e.connection_at t.dial)) none
    still (inl both) =
        subst (λ (z : Line). KnowsStill z (knows (with_state t shown e)) (option_map g (e.connection_at t.dial))) (sym both.0)
        (subst (λ (k : Knew). KnowsStill e.state.line k (option_map g (e.connection_at t.dial)))
        (sym (ap (λ (o : Option Session). knows_of o e.told t.told) both.1 ∙ ap (λ (n : ℕ). knows_of e.state.session e.told n) quiet.told))
        (still_mapped g (λ z. refl) (λ z. append-nil z.ups) e.state.line (knows e) (e.connection_at t.dial)
        (subst (λ (n : ℕ). KnowsStill e.state.line (knows e) (e.connection_at n)) (sym quiet.dial) (is.pairs app).still)))

-- An input that puts and takes nothing, and cuts nothing, keeps it.
pub dials_kept_by_quiet : (l : Layout) (c : CoresState) (m : Machine) (app now : ℕ) (input : AppIn) (outs : MoveOuts) (written : List Act) (new : Machine)
    → Holds l m → IsRun l m.trail → Mirrors c m → Allowed c (App app now input) → (goes : AppGoes m app now input outs written new)
    → ((d n : ℕ) (e : End) → app_takes d input n e ≡ e) → goes.app_outs.frames ≡ [] → goes.app_outs.cuts ≡ []
    → ((d : ℕ) → QuietEnd (end_state m app d) (end_at goes.state d)) → EachDials l (state_after l new.trail) new
dials_kept_by_quiet l c m app now input outs written new h run shows allowed goes takes frames cuts quiet =
    dials_by_app l c m app now input outs written new h run shows allowed goes
    (λ d later.
    subst
    (λ (came : End).
    DialsAre ((after_all l (state_after l m.trail) goes.app_outs.acts).server_at d)
    (app_site app d goes.app_outs (end_state m app d) (end_at goes.state d) (message_from d input)
    (app_end d goes.app_outs (end_state m app d) (end_at goes.state d) (goes.shown d) (message_from d input) came) (m.site_at d)) m.is_dead_at)
    (sym (takes d (end_state m app d).dial ((m.site_at d).end_at app)))
    (dials_quiet_at ((state_after l m.trail).server_at d) ((after_all l (state_after l m.trail) goes.app_outs.acts).server_at d) (m.site_at d) m.is_dead_at app d
    goes.app_outs (end_at goes.state d) (goes.shown d) (message_from d input) (sym (shows.dead app) ∙ allowed.alive) (h.sites d).ends (h.sites d).link
    (ap (ups_to d) frames) (ap (list_any (is_index d)) cuts) (quiet d) later (h.sites d).dials))
