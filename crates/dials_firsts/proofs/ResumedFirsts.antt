-- A Recover in the current epoch: the session has the connection, its Welcome goes out, and behind it what the other end lacks.
use Rattle.std.proofs.Common.{◌≡◌, ◌≢◌, ◌≤◌, ℕ, ◌+◌, Bool, true, false, cond, if◌then◌else◌, List, [], ◌∷◌, ◌++◌, length, map, filter, drop, max, ◌-◌}
use Rattle.std.proofs.Common.{◌==◌, zero, suc, Option, Some, None, is_some, option_map, refl, sym, ◌∙◌, ap, subst, arith, inl}
use Rattle.std.specs.Prelude.{IfSome, IsSomeAnd, nat_lt, set}
use Rattle.std.specs.List.{AllByRecursion, list_any}
use Rattle.std.proofs.lemmas.Bool.{and_parts, eqb-true}
use Rattle.plain_orders.specs.declared.entry.Entry.{Entry}
use Rattle.plain_orders.specs.Entries.{live}
use Rattle.plain_orders.specs.Sessions.{app_in}
use Rattle.plain_runs.specs.Plain.{Server, order_at}
use Rattle.ecp_messages.specs.declared.down.Down.{Down}
use Rattle.ecp_messages.specs.declared.down.DownFrame.{DownFrame}
use Rattle.ecp_messages.specs.declared.up.UpFrame.{UpFrame}
use Rattle.end_words.specs.Windows.{Window, numbered_from, resent, sent}
use Rattle.data_rules.specs.declared.down_frames.DownOut.{DownOut}
use Rattle.data_rules.specs.declared.rows.Role.{Role}
use Rattle.data_rules.specs.declared.rows.Role.TheVariants.{Bound, Waiting}
use Rattle.data_rules.specs.DataState.{DataState, SessionWindow}
use Rattle.data_rules.specs.Callers.{dial_of, goes_on, old_welcome, resumed, resumes, sends_again}
use Rattle.data_rules.specs.Conns.{role_of, with_role_if}
use Rattle.data_rules.specs.Opening.{is_round_over}
use Rattle.data_rules.specs.Puts.{Sofar, becomes, begun, conn_of, frame_on, tells, window_of}
use Rattle.cluster_runs.specs.CoresState.{Linked}
use Rattle.cluster_runs.specs.Machine.{Site}
use Rattle.cluster_runs.specs.Sent.{Connection, Knew, Place}
use Rattle.cluster_runs.specs.Connections.{down_of, is_link, is_out_on, link_of, with_downs}
use Rattle.cluster_invariant.specs.Dials.{BoundTo, DialsAre, IsNewest, LinkedTo, NodeDials}
use Rattle.cluster_invariant.specs.Served.{HasLearnt}
use Rattle.cluster_invariant.specs.Words.{is_reset_frame}
use Rattle.cluster_invariant.proofs.AllLists.{all_follow}
use Rattle.cluster_invariant.proofs.PutLaws.{with_windows}
use Rattle.cluster_invariant.proofs.Small.{of_some}
use Rattle.dials_server.proofs.FittingFrames.{FrameFits, frames_on}
use Rattle.dials_server.proofs.FittingNodes.{same_link}
use Rattle.dials_server.proofs.FrameDials.{says_moved}
use Rattle.dials_server.proofs.FrameSettled.{PutsFrames}
use Rattle.dials_server.proofs.LinkWords.{is_link_itself}
use Rattle.dials_server.proofs.PlainFrames.{IsPlain, TellsOn}
use Rattle.dials_server.proofs.RoundNodes.{OpenInv, open_state}
use Rattle.dials_server.proofs.SaveDials.{within_ordered}
use Rattle.dials_server.proofs.SaveNodes.{ReplyFits, plain_fits}
use Rattle.dials_server.proofs.TakenFrames.{site_taken}
use Rattle.dials_server.proofs.TellsNodes.{all_one_more}
use Rattle.dials_firsts.proofs.CutIfs.{CutStage, gone_of, replies_if}
use Rattle.dials_firsts.proofs.FirstComes.{Comes, FirstAt}
use Rattle.dials_firsts.proofs.FirstStages.{after_site}
use Rattle.dials_firsts.proofs.FramesGrow.{Grown, grown_again}
use Rattle.dials_firsts.proofs.ResumedNodes.{TakenNow, bound_at, bound_role_now, c_at, its_apart, link_if, linked_if, m, newest_if, noted_if}
use Rattle.dials_firsts.proofs.ResumedNodes.{order_is, replies_are, replies_now, stays_now, there_now, unbound_now, waits_if}
use Rattle.dials_firsts.proofs.ReturnedFirsts.{came_by, drops_so, dropped_so}
use Rattle.dials_firsts.proofs.WelcomedSites.{dials_welcomed, site_welcomed, welcomed_on}

-- plain messages, with their numbers

abbrev pub PlainOnes : List (ℕ × Down) → Type 0
PlainOnes ms = AllByRecursion (λ (p : ℕ × Down). IsPlain p.1) ms

numbered_plain : (k : ℕ) (ms : List Down) → AllByRecursion IsPlain ms → PlainOnes (numbered_from k ms)
numbered_plain k [] all = tt
numbered_plain k (m ∷ ms) all = (all.0, numbered_plain (k + 1) ms all.1)

pub dropped_plain : (k : ℕ) (ms : List Down) → AllByRecursion IsPlain ms → AllByRecursion IsPlain (drop k ms)
dropped_plain zero ms all = all
dropped_plain (suc k) [] all = tt
dropped_plain (suc k) (m ∷ ms) all = dropped_plain k ms all.1

pub resent_plain : (w : Window Down) (taken : ℕ) → AllByRecursion IsPlain w.waiting → PlainOnes (resent w taken)
resent_plain w taken all = go (nat_lt (sent w) taken)
  where
    go : (b : Bool) → PlainOnes (if b then [] else numbered_from (max taken w.acked) (drop (taken - w.acked) w.waiting))
    go true = tt
    go false = numbered_plain (max taken w.acked) (drop (taken - w.acked) w.waiting) (dropped_plain (taken - w.acked) w.waiting all)

-- what is sent again fits the session's connection
pub again_fits : (x : Site) (n : DataState) (gone : List ℕ) (s conn : ℕ) (ms : List (ℕ × Down)) (b : Sofar) → PlainOnes ms → TellsOn x conn
    → OpenInv x n gone [] b
    → OpenInv x n gone [] (sends_again s conn ms b)
again_fits x n gone s conn [] b plain on inv = inv
again_fits x n gone s conn (p ∷ ms) b plain on inv =
    again_fits x n gone s conn ms (tells s conn p.0 p.1 b) plain.1 on
    (open_state x n gone [] b (tells s conn p.0 p.1 b) (tells s conn p.0 p.1 b).state refl refl refl refl inv.replies refl
    (all_one_more (FrameFits x b.state) b.outs.frames _ inv.frames (plain_fits p.1 plain.0 x b.state conn on)) refl inv)

pub again_state : (s conn : ℕ) (ms : List (ℕ × Down)) (b : Sofar) → (ws : List SessionWindow) × ((sends_again s conn ms b).state ≡ with_windows ws b.state)
again_state s conn [] b = (b.state.windows, refl)
again_state s conn (p ∷ ms) b = (λ (more : (ws : List SessionWindow) ×
    ((sends_again s conn ms (tells s conn p.0 p.1 b)).state ≡ with_windows ws b.state)). more) (again_state s conn ms (tells s conn p.0 p.1 b))

-- the connection that something is linked to
pub record OnIt (o : Option Connection) (P : Connection → Type 0) : Type 0 where
  pub on : Connection
  pub there : o ≡ Some on
  pub says : P on

pub on_it : (o : Option Connection) (P : Connection → Type 0) → IsSomeAnd o P → OnIt o P
on_it None P none = absurd none
on_it (Some c) P says = record { on = c; there = refl; says = says }

-- The Welcome is on the site already, and more frames follow.
pub puts_behind : (x y : Site) (l : Linked) (conn s : ℕ) (st : DataState) (first : DownOut) (fs rest : List DownOut) → link_of x conn ≡ Some l
    → first.conn ≡ conn
    → ((k : ℕ) (c : Connection) → with_downs k (first.down ∷ []) c ≡ welcomed_on s k first.down c) → fs ≡ first ∷ rest → PutsFrames x y st fs
    → PutsFrames (site_welcomed x l s first.down) y st rest
puts_behind x y l conn s st first fs rest linked on welcomes is put = record {
  past = put.past;
  began = put.began;
  taken = put.taken;
  connections = put.connections;
  each = λ a d. put.each a d ∙ ap (λ (gs : List DownOut). option_map (with_downs x.past (frames_on x a d gs)) ((x.end_at a).connection_at d)) is ∙ turned a d;
  states = put.states;
  tolds = put.tolds;
  node = put.node;
}
  where
    more : (gs : List DownFrame) (c : Connection) → with_downs x.past (first.down ∷ gs) c ≡ with_downs x.past gs (welcomed_on s x.past first.down c)
    more gs c = ap (λ (e : Connection). with_downs x.past gs e) (welcomes x.past c)

    go : (gs : List DownOut) (b : Bool) (o : Option Connection) → option_map (with_downs x.past (map down_of (cond b (first ∷ gs) gs))) o
        ≡ option_map (with_downs x.past (map down_of gs)) (option_map (λ c. if b then welcomed_on s x.past first.down c else c) o)
    go gs b None = refl
    go gs true (Some c) = ap (λ (e : Connection). Some e) (more (map down_of gs) c)
    go gs false (Some c) = refl

    turned : (a d : ℕ) → option_map (with_downs x.past (frames_on x a d (first ∷ rest))) ((x.end_at a).connection_at d)
        ≡ option_map (with_downs x.past (frames_on x a d rest)) (((site_welcomed x l s first.down).end_at a).connection_at d)
    turned a d =
        ap (λ (b : Bool). option_map (with_downs x.past (map down_of (cond b (first ∷ filter (is_out_on x a d) rest) (filter (is_out_on x a d) rest))))
        ((x.end_at a).connection_at d))
        (ap (λ (i : ℕ). is_link a d (link_of x i)) on ∙ ap (is_link a d) linked)
        ∙ go (filter (is_out_on x a d) rest) (is_link a d (Some l)) ((x.end_at a).connection_at d)

module _ (v : Server) (x : Site) (dead : ℕ → Bool) (n : DataState) (conn : ℕ) (l : Linked) (f : UpFrame) (at : FirstAt v x dead n conn l f) (now : ℕ)
    (later : dial_of n l.app ≤ l.dial) (s : ℕ)
    (opened : app_in n.order s ≡ Some l.app) (is_live : live n.order s ≡ true) (came : IsSomeAnd at.next.on.knew.mark (λ mark. at.next.on.knew.session ≡ s))
    (learnt : HasLearnt x s)
    (plain : AllByRecursion IsPlain (window_of n s).waiting) (taken : ℕ)
  where
    abbrev z : Site
    z = site_taken x conn l (Some l)

    abbrev o : Option ℕ
    o = conn_of n s

    abbrev left : DataState
    left = m v x dead n conn l f at now later s

    abbrev apart : o ≢ Some conn
    apart = its_apart v x dead n conn l f at now later s

    abbrev cut : CutStage v dead n (record n { dials = set n.dials l.app l.dial; conns = map (with_role_if conn Waiting) n.conns }) now conn f z o
    cut = c_at v x dead n conn l f at now later s

    -- the Welcome
    abbrev welcome : DownOut
    welcome = frame_on conn 0 (window_of n s).taken (old_welcome (resumed l.app s conn now (dropped_so n l o).state) s)

    taken_on : LinkedTo cut.site conn l.app (TakenNow x.past conn at.next.on.knew)
    taken_on = linked_if v x dead n conn l f at now later o apart (TakenNow x.past conn at.next.on.knew) (λ c t. t)

    it : OnIt ((cut.site.end_at l.app).connection_at l.dial) (TakenNow x.past conn at.next.on.knew)
    it =
        on_it ((cut.site.end_at l.app).connection_at l.dial) (TakenNow x.past conn at.next.on.knew)
        (subst (λ (d : ℕ). IsSomeAnd ((cut.site.end_at l.app).connection_at d) (TakenNow x.past conn at.next.on.knew)) same taken_on.its)
      where
        same : taken_on.dial ≡ l.dial
        same = (same_link l.app l.app taken_on.dial l.dial (sym taken_on.link ∙ link_if v x dead n conn l f at now later o apart)).1

    link_is : link_of cut.site conn ≡ Some l
    link_is = link_if v x dead n conn l f at now later o apart

    abbrev site : Site
    site = site_welcomed cut.site l s welcome.down

    dials : DialsAre v site dead
    dials =
        dials_welcomed v cut.site dead left conn l it.on welcome.down s cut.stage.dials cut.stage.runs it.there
        (it.says.first ∙ ap (λ (k : ℕ). Some (record { order = k; conn = conn })) (sym cut.past)) it.says.its it.says.one
        (ap (λ (k : ℕ). app_in (order_at v k) s) cut.past ∙ ap (λ (es : List Entry). app_in es s) at.order ∙ opened)
        (waits_if v x dead n conn l f at now later o apart)
        (unbound_now v x dead n conn l f at now later s)

    nodes : NodeDials site left
    nodes = of_some (NodeDials site) site.node left cut.stage.runs dials.node

    -- the connection with it
    heard : (site.end_at l.app).connection_at l.dial ≡ Some (welcomed_on s cut.site.past welcome.down it.on)
    heard =
        ap (option_map (λ (c : Connection). if is_link l.app l.dial (Some l) then welcomed_on s cut.site.past welcome.down c else c)) it.there
        ∙ ap (λ (b : Bool). Some (if b then welcomed_on s cut.site.past welcome.down it.on else it.on)) (is_link_itself l.app l.dial)

    linked : LinkedTo site conn l.app (BoundTo site n.order s)
    linked = record {
      dial = l.dial;
      link = link_is;
      first =
          subst (λ (p : Option Connection). IsSomeAnd p (λ c. c.first ≡ Some (record { order = site.past; conn = conn }))) (sym heard)
          (it.says.first ∙ ap (λ (k : ℕ). Some (record { order = k; conn = conn })) (sym cut.past));
      its =
          subst (λ (p : Option Connection). IsSomeAnd p (BoundTo site n.order s)) (sym heard)
          (record {
            carries = refl;
            came = came_by n.order s it.on.knew it.on.knew.mark (subst (λ (k : Knew). IsSomeAnd k.mark (λ mark. k.session ≡ s)) (sym it.says.says) came);
            told = λ begun_so. refl;
            silent = λ none. (let both : ◌≡◌ {A = Option Place} (Some (record { session = s; order = cut.site.past })) None = none in absurd cc);
            unreset = ap (λ (gs : List DownFrame). list_any is_reset_frame (gs ++ welcome.down ∷ [])) it.says.silent;
          });
    }

    newest : IfSome (link_of site conn) (λ j. IsNewest (site.end_at l.app) s site.past j.dial)
    newest = subst (λ (p : Option Linked). IfSome p (λ j. IsNewest (site.end_at l.app) s site.past j.dial)) (sym link_is) low
      where
        low : IsNewest (site.end_at l.app) s site.past l.dial
        low number = go (is_link l.app number (Some l)) refl ((cut.site.end_at l.app).connection_at number)
            (newest_if v x dead n conn l f at now later o apart s number)
          where
            go : (b : Bool) → is_link l.app number (Some l) ≡ b → (p : Option Connection)
                → IfSome p (λ c. c.its ≡ Some (record { session = s; order = cut.site.past }) → number ≤ l.dial)
                → IfSome (option_map (λ c. if b then welcomed_on s cut.site.past welcome.down c else c) p)
                (λ c. c.its ≡ Some (record { session = s; order = cut.site.past }) → number ≤ l.dial)
            go b is None before = tt
            go true is (Some c) before = λ its. omega (arith, dial_of_link is)
              where
                dial_of_link : is_link l.app number (Some l) ≡ true → number ≡ l.dial
                dial_of_link linked_so = sym (eqb-true l.dial number (and_parts (l.app == l.app) (l.dial == number) linked_so).1)
            go false is (Some c) before = before

    -- the step before more goes out
    abbrev b : Sofar
    b = tells s conn 0 (old_welcome (resumed l.app s conn now (dropped_so n l o).state) s) (becomes (resumed l.app s conn now) (dropped_so n l o))

    inv : OpenInv site left (gone_of o) [] b
    inv = record {
      nodes = bound_at v x dead n conn l f at now later s b.state refl refl refl is_live opened site nodes linked newest;
      frames = (bound_role_now v x dead n conn l f at now later s b.state refl refl refl is_live opened, tt);
      cuts = refl;
      noted = noted_if v x dead n conn l f at now later o apart;
      replies =
          replies_now v x dead n conn l f at now later s b.state refl refl refl is_live opened site
          (all_follow (ReplyFits cut.site left) (ReplyFits site left) (λ r fits. says_moved cut.site site left refl refl r.says fits) (replies_if o n.replies)
          (replies_are v x dead n conn l f at now later o apart));
      there = there_now v x dead n conn l f at now later s b.state refl refl refl is_live opened;
      stays = stays_now v x dead n conn l f at now later s b.state refl refl refl is_live opened;
      longer = omega (arith, ap (λ (es : List Entry). length es) (order_is v x dead n conn l f at now later o apart));
      within = within_ordered n.order at.ordered;
      callers = tt;
      apart = refl;
    }

    abbrev again : List (ℕ × Down)
    again = resent (window_of n s) taken

    more : Grown b (sends_again s conn again b)
    more = grown_again s conn again b

    made : goes_on s conn taken (resumes l.app s l.dial conn now (begun n)) ≡ sends_again s conn again b
    made = ap (λ (c : Sofar). goes_on s conn taken (becomes (resumed l.app s conn now) c)) (drops_so n l o)

    on_still : is_round_over (sends_again s conn again b).state (sends_again s conn again b).state.round ≡ false
    on_still = ap (λ (d : DataState). is_round_over d d.round) (again_state s conn again b).1 ∙ at.ends.round.is_on

    -- A session that learnt of the order goes on.
    pub comes_resumed : Comes v x dead n now conn f l (goes_on s conn taken (resumes l.app s l.dial conn now (begun n)))
    comes_resumed = record {
      site = site;
      node = left;
      gone = gone_of o;
      dials = dials;
      runs = cut.stage.runs;
      past = cut.past;
      order = order_is v x dead n conn l f at now later o apart;
      inv = subst (λ (c : Sofar). OpenInv site left (gone_of o) [] c) (sym made)
          (again_fits site left (gone_of o) s conn again b (resent_plain (window_of n s) taken plain) tells_on inv);
      on = ap (λ (c : Sofar). is_round_over c.state c.state.round) made ∙ on_still;
      known = λ q role. inl (subst (HasLearnt site) (session q role)
          (subst (λ (k : ℕ). (λ (i : Option ℕ). is_some i) (cut.site.lane_at s k).began ≡ true) (sym cut.past)
          (ap (λ (i : Option ℕ). is_some i) (cut.began s) ∙ learnt)));
      before = welcome ∷ [];
      begins = more.more;
      frames = ap (λ (c : Sofar). c.outs.frames) made ∙ more.frames;
      puts = λ st outs rest same. puts_behind cut.site (after_site n now conn f z (gone_of o) st outs) l conn s st welcome outs.frames rest link_is refl
          (λ k c. refl) same (cut.stage.puts st outs);
    }
      where
        tells_on : TellsOn site conn
        tells_on =
            subst (λ (p : Option Linked). IsSomeAnd p (λ j. IsSomeAnd ((site.end_at j.app).connection_at j.dial) (λ c. is_some c.its ≡ true))) (sym link_is)
            (subst (λ (p : Option Connection). IsSomeAnd p (λ c. is_some c.its ≡ true)) (sym heard) refl)

        session : (q : ℕ) → role_of (goes_on s conn taken (resumes l.app s l.dial conn now (begun n))).state conn ≡ Some (Bound q) → s ≡ q
        session q role =
            same (sym (ap (λ (c : Sofar). role_of c.state conn) made ∙ ap (λ (d : DataState). role_of d conn) (again_state s conn again b).1
            ∙ bound_role_now v x dead n conn l f at now later s b.state refl refl refl is_live opened) ∙ role)
          where
            same : ◌≡◌ {A = Option Role} (Some (Bound s)) (Some (Bound q)) → s ≡ q
            same both = cc (both)
