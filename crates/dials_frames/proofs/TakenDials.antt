-- The part on connections at the data server whose frame an application end takes, where it is told nothing new.
use Rattle.std.proofs.Common.{◌≡◌, ◌≤◌, ℕ, zero, suc, Bool, true, false, not, ◌==◌, List, [], ◌∷◌, ◌++◌, drop, length, Option, Some, None, option_map, if◌then◌else◌, refl, sym, ◌∙◌, ap, subst, arith, inl, inr}
use Rattle.std.specs.Prelude.{IfSome}
use Rattle.std.specs.List.{list_any}
use Rattle.std.proofs.lemmas.Bool.{eq-eqb}
use Rattle.std.proofs.lemmas.List.{append-nil, length-drop}
use Rattle.plain_runs.specs.Plain.{Server}
use Rattle.ecp_messages.specs.declared.down.DownFrame.{DownFrame}
use Rattle.ecp_messages.specs.declared.up.UpFrame.{UpFrame}
use Rattle.app_rules.specs.declared.app_outs.AppOuts.{AppOuts}
use Rattle.app_rules.specs.declared.line.Line.{Line}
use Rattle.app_rules.specs.AppState.{AppEnd, Session}
use Rattle.app_rules.specs.Looks.{Shown}
use Rattle.cluster_runs.specs.Sent.{Connection, Knew, Place}
use Rattle.cluster_runs.specs.Machine.{Site, End}
use Rattle.cluster_runs.specs.Connections.{knows, knows_of, at_number, carries_up, down_taken, is_index, leaves_if, ups_to, with_ups}
use Rattle.cluster_runs.specs.Goes.{app_end, app_site, with_state}
use Rattle.cluster_runs.specs.Lanes.{is_told_new, told_by}
use Rattle.cluster_invariant.specs.Dials.{ConnectionIs, DialsAre, KnowsStill}
use Rattle.cluster_invariant.specs.Ends.{EndsAre}
use Rattle.cluster_invariant.specs.Link.{LinkHolds}
use Rattle.cluster_invariant.specs.Words.{NoLess, has_wire, is_wire}
use Rattle.cluster_invariant.proofs.Small.{of_some}
use Rattle.ends_kept.proofs.TakenDown.{Taken}
use Rattle.dials_kept.proofs.ConnectionsGrow.{StaysKnown}
use Rattle.dials_kept.proofs.ShortDials.{still_mapped}
use Rattle.dials_kept.proofs.QuietEnds.{Changes, TookMore, changed}
use Rattle.dials_kept.proofs.JobDials.{lane_taken}
use Rattle.dials_kept.proofs.QuietMoves.{knows_quiet, wireless_still}
use Rattle.dials_kept.proofs.AppInputs.{Passes, changed_twice, dials_with_change, passes_grows, unwired}
use Rattle.dials_frames.proofs.FrameTakes.{LineTook, SessionTook, TakesOne}

-- a session that took no less

took_no_news : (o q : Option Session) → SessionTook o q → is_told_new o q ≡ false
took_no_news None None is = refl
took_no_news None (Some t) is = absurd is
took_no_news (Some s) None is = refl
took_no_news (Some s) (Some t) is = ap not (eq-eqb s.epoch t.epoch (sym is.1))

took_more : (x : Site) (o q : Option Session) (p : Option Place) → SessionTook o q
    → IfSome o (λ s. IfSome p (λ z. (z.session ≡ s.number) × (s.window.taken ≡ (x.lane_at s.number z.order).down_taken))) → TookMore x q p
took_more x o q None took is = tt
took_more x o None (Some p) took is = tt
took_more x None (Some t) (Some p) took is = absurd took
took_more x (Some s) (Some t) (Some p) took is =
    subst (λ (n : ℕ). (x.lane_at n p.order).down_taken ≤ t.window.taken) (sym is.0) (omega (arith, is.1, took.2))

took_knows : (o q : Option Session) (p : Option Place) (told later : ℕ) → later ≡ told → SessionTook o q → IfSome o (λ s. s.number ≡ told)
    → NoLess (knows_of o p told) (knows_of q p later)
took_knows o None p told later same took newest = knows_quiet o None p told later same (inr refl) newest
took_knows None (Some t) p told later same took newest = absurd took
took_knows (Some s) (Some t) None told later same took newest = inr (sym took.0, tt)
took_knows (Some s) (Some t) (Some p) told later same took newest = inr (sym took.0, inr (refl, took.2))

-- the connection on which the frame was

pub passes_down : (e : End) (frame : DownFrame) (t : Taken e frame) → Passes t.connection (down_taken t.connection)
passes_down e frame t = record {
  ups = refl;
  ups_taken = refl;
  downs = refl;
  within =
      λ low. omega (arith, low, length-drop t.connection.downs_taken t.connection.downs, ap (λ (fs : List DownFrame). length fs) t.left);
  linked = refl;
  its = refl;
  knew = refl;
  first = refl;
  data_left = refl;
}

-- something was taken of it
pub taken_of : (v : Server) (x : Site) (app number : ℕ) (e : End) (frame : DownFrame) (t : Taken e frame) → ConnectionIs v x app number t.connection
    → t.connection.ups_taken ≡ 0 → ⊥
taken_of v x app number e frame t is none = go (drop t.connection.downs_taken t.connection.downs) t.left (nothing t.connection.downs_taken t.connection.downs (is.silent none))
  where
    nothing : (n : ℕ) (fs : List DownFrame) → fs ≡ [] → drop n fs ≡ []
    nothing zero fs is_none = is_none
    nothing (suc n) [] is_none = refl
    nothing (suc n) (g ∷ gs) is_none = absurd cc

    go : (fs : List DownFrame) → fs ≡ frame ∷ t.behind → fs ≡ [] → ⊥
    go fs is_more is_none = let both : ◌≡◌ {A = List DownFrame} [] (frame ∷ t.behind) = sym is_none ∙ is_more in absurd cc

left_ups : (cut : Bool) (us : List UpFrame) (z : Connection) → (leaves_if cut (with_ups us z)).ups ≡ z.ups ++ us
left_ups true us z = refl
left_ups false us z = refl

left_knew : (cut : Bool) (us : List UpFrame) (z : Connection) → (leaves_if cut (with_ups us z)).knew ≡ z.knew
left_knew true us z = refl
left_knew false us z = refl

-- an end that leaves the connection has none, and else it has the one that it had
pub left_so : (cut dead : Bool) (us : List UpFrame) (z : Connection) (e t : AppEnd) → t.dial ≡ e.dial → (cut ≡ false → has_wire t.line ≡ has_wire e.line)
    → (cut ≡ true → has_wire t.line ≡ false) → z.app_left ≡ not (is_wire dead e t.dial) → (leaves_if cut (with_ups us z)).app_left ≡ not (is_wire dead t t.dial)
left_so true dead us z e t dial wire off left = sym (ap not (unwired t (off refl) dead))
left_so false true us z e t dial wire off left = left
left_so false false us z e t dial wire off left =
    left ∙ ap not (ap (λ (b : Bool). if b then t.dial == e.dial else false) (sym (wire refl)) ∙ ap (λ (n : ℕ). if has_wire t.line then t.dial == n else false) (sym dial))

-- The data server's part.
pub dials_taken_at : (v w : Server) (x : Site) (dead : ℕ → Bool) (app d : ℕ) (outs : AppOuts) (t : AppEnd) (shown : Shown) (frame : DownFrame) → dead app ≡ false
    → EndsAre v x dead → LinkHolds v x dead → Taken (x.end_at app) frame → (us : List UpFrame) → ups_to d outs.frames ≡ us
    → TakesOne d (x.end_at app).state t us outs.cuts → StaysKnown v w → DialsAre v x dead
    → DialsAre w
    (app_site app d outs (x.end_at app).state t (Some frame.message)
    (app_end d outs (x.end_at app).state t shown (Some frame.message) (at_number (x.end_at app).state.dial down_taken (x.end_at app))) x) dead
dials_taken_at v w x dead app d outs t shown frame alive ends link taken us frames takes later is =
    dials_with_change v w x dead app d outs t shown (Some frame.message) came g moved nothing
    (took_more x e.state.session t.session e.told takes.session
    (lane_taken v x app e.state.session e.told (ends.told app alive).place (link.apps app alive).window)) takes.dial
    (took_knows e.state.session t.session e.told e.state.told t.told takes.told takes.session (ends.told app alive).newest) changes (still takes.line) later is
  where
    e : End
    e = x.end_at app

    came : End
    came = at_number e.state.dial down_taken e

    puts : Connection → Connection
    puts z = leaves_if takes.cut (with_ups us z)

    g : Connection → Connection
    g z = leaves_if takes.cut (with_ups us (down_taken z))

    nothing : is_told_new e.state.session t.session ≡ false
    nothing = took_no_news e.state.session t.session takes.session

    moved : app_end d outs e.state t shown (Some frame.message) came ≡ changed g t shown e
    moved =
        ap (λ (b : Bool). carries_up d t.dial outs.frames outs.cuts (told_by b (Some frame.message) e.state.dial (with_state t shown came))) nothing
        ∙ ap (λ (fs : List UpFrame). at_number t.dial (λ z. leaves_if (list_any (is_index d) outs.cuts) (with_ups fs z)) (with_state t shown came)) frames
        ∙ ap (λ (b : Bool). at_number t.dial (λ z. leaves_if b (with_ups us z)) (with_state t shown came)) takes.its
        ∙ ap (λ (n : ℕ). at_number t.dial (λ z. leaves_if takes.cut (with_ups us z)) (with_state t shown (at_number n down_taken e))) (sym takes.dial)
        ∙ changed_twice down_taken (λ z. leaves_if takes.cut (with_ups us z)) t shown e

    its : e.connection_at t.dial ≡ Some taken.connection
    its = ap e.connection_at takes.dial ∙ taken.its

    connection : ConnectionIs v x app e.state.dial taken.connection
    connection = of_some (ConnectionIs v x app e.state.dial) (e.connection_at e.state.dial) taken.connection taken.its ((is.pairs app).each e.state.dial)

    changes : (y : Site) → y.connection_at ≡ x.connection_at → IfSome (e.connection_at t.dial) (Changes x y (dead app) g t e)
    changes y same = subst (λ (o : Option Connection). IfSome o (Changes x y (dead app) g t e)) (sym its) (record {
      grows = passes_grows x y same takes.cut us taken.connection (down_taken taken.connection) (passes_down e frame taken) takes.follow
          (λ none. absurd (taken_of v x app e.state.dial e frame taken connection none));
      left =
          left_so takes.cut (dead app) us (down_taken taken.connection) e.state t takes.dial takes.wire takes.off
          (of_some (λ z. z.app_left ≡ not (is_wire (dead app) e.state t.dial)) (e.connection_at t.dial) taken.connection its ((is.pairs app).left t.dial));
    })

    still : LineTook e.state t us → KnowsStill t.line (knows (with_state t shown e)) (option_map g (e.connection_at t.dial))
    still (inr (inl joined)) = subst (λ (k : Line). KnowsStill k (knows (with_state t shown e)) (option_map g (e.connection_at t.dial))) (sym joined) tt
    still (inr (inr off)) = wireless_still t.line (knows (with_state t shown e)) (option_map g (e.connection_at t.dial)) off
    still (inl same) =
        subst (λ (k : Line). KnowsStill k (knows (with_state t shown e)) (option_map g (e.connection_at t.dial))) (sym same.0)
        (subst (λ (k : Knew). KnowsStill e.state.line k (option_map g (e.connection_at t.dial)))
        (sym (ap (λ (o : Option Session). knows_of o e.told t.told) same.1 ∙ ap (λ (n : ℕ). knows_of e.state.session e.told n) takes.told))
        (still_mapped g (λ z. left_knew takes.cut us (down_taken z))
        (λ z. left_ups takes.cut us (down_taken z) ∙ ap (λ (fs : List UpFrame). z.ups ++ fs) same.2 ∙ append-nil z.ups) e.state.line (knows e)
        (e.connection_at t.dial)
        (subst (λ (n : ℕ). KnowsStill e.state.line (knows e) (e.connection_at n)) (sym takes.dial) (is.pairs app).still)))
