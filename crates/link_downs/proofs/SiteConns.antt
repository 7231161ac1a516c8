-- A connection of a pair after a step of its data server: what was put on it, and what stays of it.
use Rattle.std.proofs.Common.{◌≡◌, ◌≢◌, ℕ, Bool, true, false, if◌then◌else◌, List, [], ◌∷◌, ◌++◌, map, filter, Option, Some, None, is_some, option_map, refl, sym, ◌∙◌, ap, subst}
use Rattle.std.proofs.lemmas.Bool.{false≢true, true≢false}
use Rattle.ecp_messages.specs.declared.down.DownFrame.{DownFrame}
use Rattle.ecp_messages.specs.declared.up.UpFrame.{UpFrame}
use Rattle.data_rules.specs.declared.data_in.DataIn.{DataIn}
use Rattle.data_rules.specs.declared.data_in.DataIn.TheVariants as data_in
use Rattle.data_rules.specs.declared.data_outs.DataOuts.{DataOuts}
use Rattle.data_rules.specs.declared.down_frames.DownOut.{DownOut}
use Rattle.data_rules.specs.DataState.{DataState}
use Rattle.cluster_runs.specs.CoresState.{Linked}
use Rattle.cluster_runs.specs.Connections.{data_leaves, down_of, first_else, hears_downs, is_link, is_out_on, leaves_conn, leaves_conns, link_of, linked_if, up_taken, at_conn, welcomed, with_downs}
use Rattle.cluster_runs.specs.Goes.{server_site, server_takes, with_node}
use Rattle.cluster_runs.specs.Machine.{Site}
use Rattle.cluster_runs.specs.Moves.{named_dial}
use Rattle.cluster_runs.specs.Sent.{Connection, FirstTaken, Knew, Place}
use Rattle.dials_server.proofs.PlainFrames.{Hears, heard}

-- what both ends have put downwards on it and what is known of it stays, and what the data end left it has left
pub record Kin (c d : Connection) : Type 0 where
  pub its : d.its ≡ c.its
  pub downs : d.downs ≡ c.downs
  pub downs_taken : d.downs_taken ≡ c.downs_taken
  pub knew : d.knew ≡ c.knew
  pub first : is_some c.first ≡ true → d.first ≡ c.first
  pub left : d.data_left ≡ false → c.data_left ≡ false

pub kin_same : (c : Connection) → Kin c c
kin_same c = record { its = refl; downs = refl; downs_taken = refl; knew = refl; first = λ is. refl; left = λ is. is }

pub kin_then : (c d e : Connection) → Kin c d → Kin d e → Kin c e
kin_then c d e x y = record {
  its = y.its ∙ x.its;
  downs = y.downs ∙ x.downs;
  downs_taken = y.downs_taken ∙ x.downs_taken;
  knew = y.knew ∙ x.knew;
  first = λ is. y.first (ap (λ (o : Option FirstTaken). is_some o) (x.first is) ∙ is) ∙ x.first is;
  left = λ is. x.left (y.left is);
}

kin_left : (c : Connection) → Kin c (data_leaves c)
kin_left c = record { its = refl; downs = refl; downs_taken = refl; knew = refl; first = λ is. refl; left = λ is. absurd (true≢false is) }

kin_taken : (past conn : ℕ) (c : Connection) → Kin c (up_taken past conn c)
kin_taken past conn c = record { its = refl; downs = refl; downs_taken = refl; knew = refl; first = λ is. go c.first is; left = λ is. is }
  where
    go : (o : Option FirstTaken) → is_some o ≡ true → Some (first_else o (record { order = past; conn = conn })) ≡ o
    go None is = absurd (false≢true is)
    go (Some f) is = refl

-- one of several connections, after a change
pub record After (P : Connection → Connection → Type 0) (c : Connection) (o : Option Connection) : Type 0 where
  pub it : Connection
  pub there : o ≡ Some it
  pub is : P c it

if_kin : (b : Bool) (f : Connection → Connection) (c : Connection) → ((d : Connection) → Kin d (f d)) → Kin c (if b then f c else c)
if_kin true f c kin = kin c
if_kin false f c kin = kin_same c

-- an input
takes_kin : (input : DataIn) (x : Site) (a n : ℕ) (c : Connection) → (x.end_at a).connection_at n ≡ Some c → After Kin c (((server_takes input x).end_at a).connection_at n)
takes_kin (data_in.Frame conn f) x a n c it = record {
  it = if is_link a n (link_of (at_conn conn (linked_if (named_dial f.message)) x) conn) then up_taken x.past conn c else c;
  there = ap (option_map (λ (d : Connection). if is_link a n (link_of (at_conn conn (linked_if (named_dial f.message)) x) conn) then up_taken x.past conn d else d)) it;
  is = if_kin (is_link a n (link_of (at_conn conn (linked_if (named_dial f.message)) x) conn)) (up_taken x.past conn) c (kin_taken x.past conn);
}
takes_kin (data_in.Connected conn) x a n c it = record { it = c; there = it; is = kin_same c }
takes_kin (data_in.Broken conn) x a n c it = record {
  it = if is_link a n (link_of x conn) then data_leaves c else c;
  there = ap (option_map (λ (d : Connection). if is_link a n (link_of x conn) then data_leaves d else d)) it;
  is = if_kin (is_link a n (link_of x conn)) data_leaves c kin_left;
}
takes_kin data_in.Tick x a n c it = record { it = c; there = it; is = kin_same c }
takes_kin (data_in.Saved upto) x a n c it = record { it = c; there = it; is = kin_same c }

-- connections that it leaves
leaves_kin : (conns : List ℕ) (x : Site) (a n : ℕ) (c : Connection) → (x.end_at a).connection_at n ≡ Some c → After Kin c (((leaves_conns conns x).end_at a).connection_at n)
leaves_kin [] x a n c it = record { it = c; there = it; is = kin_same c }
leaves_kin (conn ∷ conns) x a n c it = go (leaves_kin conns (leaves_conn conn x) a n (if is_link a n (link_of x conn) then data_leaves c else c) (ap (option_map (λ (d : Connection). if is_link a n (link_of x conn) then data_leaves d else d)) it))
  where
    go : After Kin (if is_link a n (link_of x conn) then data_leaves c else c) (((leaves_conns conns (leaves_conn conn x)).end_at a).connection_at n)
        → After Kin c (((leaves_conns (conn ∷ conns) x).end_at a).connection_at n)
    go r = record { it = r.it; there = r.there; is = kin_then c (if is_link a n (link_of x conn) then data_leaves c else c) r.it (if_kin (is_link a n (link_of x conn)) data_leaves c kin_left) r.is }

-- what is put on a connection of a pair
abbrev pub frames_for : Site → ℕ → ℕ → List DownOut → List DownFrame
frames_for x a n fs = map down_of (filter (is_out_on x a n) fs)

-- It after the step.
pub record Heard (past : ℕ) (fs : List DownFrame) (c d : Connection) : Type 0 where
  pub its : d.its ≡ (with_downs past fs c).its
  pub downs : d.downs ≡ c.downs ++ fs
  pub downs_taken : d.downs_taken ≡ c.downs_taken
  pub knew : d.knew ≡ c.knew
  pub first : is_some c.first ≡ true → d.first ≡ c.first
  pub left : d.data_left ≡ false → c.data_left ≡ false

-- whose messages follow is by whose did
its_by : (past : ℕ) (fs : List DownFrame) (c d : Connection) → d.its ≡ c.its → (with_downs past fs d).its ≡ (with_downs past fs c).its
its_by past [] c d same = same
its_by past (f ∷ fs) c d same =
    its_by past fs (record c { downs = c.downs ++ f ∷ []; its = welcomed past c.its f.message }) (record d { downs = d.downs ++ f ∷ []; its = welcomed past d.its f.message })
    (ap (λ (o : Option Place). welcomed past o f.message) same)

pub site_conn : (old : DataState) (now : ℕ) (input : DataIn) (outs : DataOuts) (new : DataState) (x : Site) (a n : ℕ) (c : Connection) → (x.end_at a).connection_at n ≡ Some c
    → After (Heard (server_takes input x).past (frames_for (server_takes input x) a n outs.frames)) c (((server_site old now input outs new x).end_at a).connection_at n)
site_conn old now input outs new x a n c it = go (takes_kin input x a n c it)
  where
    z : Site
    z = with_node now new (server_takes input x)

    fs : List DownFrame
    fs = frames_for (server_takes input x) a n outs.frames

    go : After Kin c (((server_takes input x).end_at a).connection_at n) → After (Heard (server_takes input x).past fs) c (((server_site old now input outs new x).end_at a).connection_at n)
    go t = by (leaves_kin outs.cuts (hears_downs outs.frames z) a n (with_downs z.past fs t.it) (ap (option_map (λ (d : Connection). with_downs z.past fs d)) t.there))
      where
        h : Hears t.it (with_downs z.past fs t.it) fs
        h = heard z.past fs t.it

        by : After Kin (with_downs z.past fs t.it) (((leaves_conns outs.cuts (hears_downs outs.frames z)).end_at a).connection_at n)
            → After (Heard (server_takes input x).past fs) c (((server_site old now input outs new x).end_at a).connection_at n)
        by r = record {
          it = r.it;
          there = r.there;
          is = record {
            its = r.is.its ∙ its_by z.past fs c t.it t.is.its;
            downs = r.is.downs ∙ h.downs ∙ ap (λ (ds : List DownFrame). ds ++ fs) t.is.downs;
            downs_taken = r.is.downs_taken ∙ h.downs_taken ∙ t.is.downs_taken;
            knew = r.is.knew ∙ h.knew ∙ t.is.knew;
            first = λ is. r.is.first (ap (λ (o : Option FirstTaken). is_some o) (h.first ∙ t.is.first is) ∙ is) ∙ h.first ∙ t.is.first is;
            left = λ is. t.is.left (sym h.data_left ∙ r.is.left is);
          };
        }
