-- The connections of a site after a step of its data server: what was put on each, and what was taken of it.
use Rattle.std.proofs.Common.{◌≡◌, ℕ, Bool, true, false, List, [], ◌∷◌, ◌++◌, map, filter, append_assoc, append-nil, option_map, Option, Some, None, refl, sym, ◌∙◌, ap, subst, if◌then◌else◌}
use Rattle.std.specs.Prelude.{⊤, ◌==◌}
use Rattle.std.specs.List.{AllByRecursion}
use Rattle.std.proofs.lemmas.Bool.{ne_eqb, true≢false}
use Rattle.ecp_messages.specs.declared.down.Down.{Down}
use Rattle.ecp_messages.specs.declared.down.Down.TheVariants as down
use Rattle.ecp_messages.specs.declared.down.DownFrame.{DownFrame}
use Rattle.data_rules.specs.DataState.{DataState}
use Rattle.data_rules.specs.declared.data_in.DataIn.{DataIn}
use Rattle.data_rules.specs.declared.data_in.DataIn.TheVariants as data_in
use Rattle.data_rules.specs.declared.data_outs.DataOuts.{DataOuts}
use Rattle.data_rules.specs.declared.down_frames.DownOut.{DownOut}
use Rattle.cluster_runs.specs.CoresState.{Linked}
use Rattle.cluster_runs.specs.Connections.{at_conn, data_leaves, down_of, hears_downs, is_link, is_out_on, leaves_conn, leaves_conns, left, link_else, link_in, link_of, linked_if, up_taken, welcomed, with_downs}
use Rattle.cluster_runs.specs.Goes.{server_site, server_takes, with_node}
use Rattle.cluster_runs.specs.Machine.{DataConnection, Site}
use Rattle.cluster_runs.specs.Moves.{named_dial}
use Rattle.cluster_runs.specs.Sent.{Connection}
use Rattle.dials_server.proofs.EndedDials.{left_link}
use Rattle.link_nodes.proofs.RepliesGo.{is_first}

-- these frames were put on it, and it was left or not
pub record Heard (k : ℕ) (fs : List DownFrame) (c d : Connection) : Type 0 where
  pub ups : d.ups ≡ c.ups
  pub ups_taken : d.ups_taken ≡ c.ups_taken
  pub downs : d.downs ≡ c.downs ++ fs
  pub its : d.its ≡ (with_downs k fs c).its
  pub knew : d.knew ≡ c.knew
  pub first : d.first ≡ c.first

abbrev pub HeardTo : ℕ → List DownFrame → Option Connection → Option Connection → Type 0
HeardTo k fs None None = ⊤
HeardTo k fs None (Some d) = ⊥
HeardTo k fs (Some c) None = ⊥
HeardTo k fs (Some c) (Some d) = Heard k fs c d

-- frames that neither begin nor end anything leave whose messages it carries
pub its_same : (k : ℕ) (fs : List DownFrame) (c : Connection) → AllByRecursion (λ (f : DownFrame). is_first f.message ≡ false) fs → (with_downs k fs c).its ≡ c.its
its_same k [] c all = refl
its_same k (f ∷ fs) c all = its_same k fs (record c { downs = c.downs ++ f ∷ []; its = welcomed k c.its f.message }) all.1 ∙ go f.message all.0
  where
    go : (m : Down) → is_first m ≡ false → welcomed k c.its m ≡ c.its
    go (down.Welcome session epoch kept front taken) is = absurd (true≢false is)
    go (down.Reset session at) is = refl
    go (down.Block front block) is = refl
    go (down.Drop front lo hi) is = refl
    go (down.Ack front) is = refl
    go (down.Grant front ticket at) is = refl
    go (down.Answer front about job number at sum) is = refl
    go (down.Normal front) is = refl
    go down.Bare is = refl

-- what was put

with_downs_heard : (k : ℕ) (fs : List DownFrame) (c : Connection) → Heard k fs c (with_downs k fs c)
with_downs_heard k [] c = record { ups = refl; ups_taken = refl; downs = sym (append-nil c.downs); its = refl; knew = refl; first = refl }
with_downs_heard k (f ∷ fs) c = go (with_downs_heard k fs next)
  where
    next : Connection
    next = record c { downs = c.downs ++ f ∷ []; its = welcomed k c.its f.message }

    go : Heard k fs next (with_downs k fs next) → Heard k (f ∷ fs) c (with_downs k fs next)
    go h = record { ups = h.ups; ups_taken = h.ups_taken; downs = h.downs ∙ append_assoc c.downs (f ∷ []) fs; its = refl; knew = h.knew; first = h.first }

-- as it is left

abbrev pub SameTo : Option Connection → Option Connection → Type 0
SameTo None None = ⊤
SameTo None (Some d) = ⊥
SameTo (Some c) None = ⊥
SameTo (Some c) (Some d) = (b : Bool) × (d ≡ record c { data_left = b })

pub same_to : (o : Option Connection) → SameTo o o
same_to None = tt
same_to (Some c) = (c.data_left, refl)

same_then : (o p q : Option Connection) → SameTo o p → SameTo p q → SameTo o q
same_then None None None a b = tt
same_then None None (Some e) a b = absurd b
same_then None (Some d) q a b = absurd a
same_then (Some c) None q a b = absurd a
same_then (Some c) (Some d) None a b = absurd b
same_then (Some c) (Some d) (Some e) a b = (b.0, b.1 ∙ ap (λ (z : Connection). record z { data_left = b.0 }) a.1)

heard_left : (k : ℕ) (fs : List DownFrame) (o p q : Option Connection) → HeardTo k fs o p → SameTo p q → HeardTo k fs o q
heard_left k fs None None None h s = tt
heard_left k fs None None (Some e) h s = absurd s
heard_left k fs None (Some d) q h s = absurd h
heard_left k fs (Some c) None q h s = absurd h
heard_left k fs (Some c) (Some d) None h s = absurd s
heard_left k fs (Some c) (Some d) (Some e) h s = record {
  ups = ap (λ (z : Connection). z.ups) s.1 ∙ h.ups;
  ups_taken = ap (λ (z : Connection). z.ups_taken) s.1 ∙ h.ups_taken;
  downs = ap (λ (z : Connection). z.downs) s.1 ∙ h.downs;
  its = ap (λ (z : Connection). z.its) s.1 ∙ h.its;
  knew = ap (λ (z : Connection). z.knew) s.1 ∙ h.knew;
  first = ap (λ (z : Connection). z.first) s.1 ∙ h.first;
}

pub left_one : (x : Site) (conn a n : ℕ) → SameTo ((x.end_at a).connection_at n) (((leaves_conn conn x).end_at a).connection_at n)
left_one x conn a n = go ((x.end_at a).connection_at n)
  where
    by : (b : Bool) (c : Connection) → SameTo (Some c) (Some (if b then data_leaves c else c))
    by true c = (true, refl)
    by false c = (c.data_left, refl)

    go : (o : Option Connection) → SameTo o (option_map (λ (c : Connection). if is_link a n (link_of x conn) then data_leaves c else c) o)
    go None = tt
    go (Some c) = by (is_link a n (link_of x conn)) c

left_all : (conns : List ℕ) (x : Site) (a n : ℕ) → SameTo ((x.end_at a).connection_at n) (((leaves_conns conns x).end_at a).connection_at n)
left_all [] x a n = same_to ((x.end_at a).connection_at n)
left_all (conn ∷ conns) x a n =
    same_then ((x.end_at a).connection_at n) (((leaves_conn conn x).end_at a).connection_at n) (((leaves_conns conns (leaves_conn conn x)).end_at a).connection_at n) (left_one x conn a n)
    (left_all conns (leaves_conn conn x) a n)

link_left : (conns : List ℕ) (x : Site) (m : ℕ) → link_of (leaves_conns conns x) m ≡ link_of x m
link_left [] x m = refl
link_left (conn ∷ conns) x m = link_left conns (leaves_conn conn x) m ∙ go (m == conn)
  where
    go : (b : Bool) → link_in (if b then option_map left (x.connection_at m) else x.connection_at m) ≡ link_in (x.connection_at m)
    go true = left_link (x.connection_at m)
    go false = refl

past_left : (conns : List ℕ) (x : Site) → (leaves_conns conns x).past ≡ x.past
past_left [] x = refl
past_left (conn ∷ conns) x = past_left conns (leaves_conn conn x)

state_left : (conns : List ℕ) (x : Site) (a : ℕ) → (((leaves_conns conns x).end_at a).state ≡ (x.end_at a).state)
state_left [] x a = refl
state_left (conn ∷ conns) x a = state_left conns (leaves_conn conn x) a

told_left : (conns : List ℕ) (x : Site) (a : ℕ) → (((leaves_conns conns x).end_at a).told ≡ (x.end_at a).told)
told_left [] x a = refl
told_left (conn ∷ conns) x a = told_left conns (leaves_conn conn x) a

-- an input

takes_past : (input : DataIn) (x : Site) → (server_takes input x).past ≡ x.past
takes_past (data_in.Frame conn frame) x = refl
takes_past (data_in.Connected conn) x = refl
takes_past (data_in.Broken conn) x = refl
takes_past data_in.Tick x = refl
takes_past (data_in.Saved upto) x = refl

takes_state : (input : DataIn) (x : Site) (a : ℕ) → ((server_takes input x).end_at a).state ≡ (x.end_at a).state
takes_state (data_in.Frame conn frame) x a = refl
takes_state (data_in.Connected conn) x a = refl
takes_state (data_in.Broken conn) x a = refl
takes_state data_in.Tick x a = refl
takes_state (data_in.Saved upto) x a = refl

-- what an input leaves of a connection: what was put on it, and of which so much was taken

pub record Took (c d : Connection) : Type 0 where
  pub ups : d.ups ≡ c.ups
  pub downs : d.downs ≡ c.downs
  pub its : d.its ≡ c.its
  pub knew : d.knew ≡ c.knew

abbrev pub TookTo : Option Connection → Option Connection → Type 0
TookTo None None = ⊤
TookTo None (Some d) = ⊥
TookTo (Some c) None = ⊥
TookTo (Some c) (Some d) = Took c d

took_same : (o p : Option Connection) → SameTo o p → TookTo o p
took_same None None s = tt
took_same None (Some d) s = absurd s
took_same (Some c) None s = absurd s
took_same (Some c) (Some d) s = record {
  ups = ap (λ (z : Connection). z.ups) s.1;
  downs = ap (λ (z : Connection). z.downs) s.1;
  its = ap (λ (z : Connection). z.its) s.1;
  knew = ap (λ (z : Connection). z.knew) s.1;
}

pub took_at : (input : DataIn) (x : Site) (a n : ℕ) → TookTo ((x.end_at a).connection_at n) (((server_takes input x).end_at a).connection_at n)
took_at (data_in.Frame conn frame) x a n = go ((x.end_at a).connection_at n)
  where
    l : Option Linked
    l = link_of (at_conn conn (linked_if (named_dial frame.message)) x) conn

    by : (b : Bool) (c : Connection) → Took c (if b then up_taken x.past conn c else c)
    by true c = record { ups = refl; downs = refl; its = refl; knew = refl }
    by false c = record { ups = refl; downs = refl; its = refl; knew = refl }

    go : (o : Option Connection) → TookTo o (option_map (λ (c : Connection). if is_link a n l then up_taken x.past conn c else c) o)
    go None = tt
    go (Some c) = by (is_link a n l) c
took_at (data_in.Connected conn) x a n = took_same ((x.end_at a).connection_at n) ((x.end_at a).connection_at n) (same_to ((x.end_at a).connection_at n))
took_at (data_in.Broken conn) x a n = took_same ((x.end_at a).connection_at n) (((leaves_conn conn x).end_at a).connection_at n) (left_one x conn a n)
took_at data_in.Tick x a n = took_same ((x.end_at a).connection_at n) ((x.end_at a).connection_at n) (same_to ((x.end_at a).connection_at n))
took_at (data_in.Saved upto) x a n = took_same ((x.end_at a).connection_at n) ((x.end_at a).connection_at n) (same_to ((x.end_at a).connection_at n))

-- one that is linked stays so
pub link_takes : (input : DataIn) (x : Site) (m : ℕ) (l : Linked) → (input ≡ data_in.Connected m → ⊥) → link_of x m ≡ Some l → link_of (server_takes input x) m ≡ Some l
link_takes (data_in.Frame conn frame) x m l new is = go (m == conn) (x.connection_at m) is
  where
    by : (o : Option DataConnection) → link_in o ≡ Some l → link_in (option_map (linked_if (named_dial frame.message)) o) ≡ Some l
    by None at = absurd cc
    by (Some d) at = ap (λ (q : Option Linked). link_else q (named_dial frame.message)) at

    go : (b : Bool) (o : Option DataConnection) → link_in o ≡ Some l → link_in (if b then option_map (linked_if (named_dial frame.message)) o else o) ≡ Some l
    go true o at = by o at
    go false o at = at
link_takes (data_in.Connected conn) x m l new is =
    ap (λ (b : Bool). link_in (if b then Some (record { link = None; left = false }) else x.connection_at m)) (ne_eqb m conn (λ same. new (ap data_in.Connected (sym same)))) ∙ is
link_takes (data_in.Broken conn) x m l new is = link_left (conn ∷ []) x m ∙ is
link_takes data_in.Tick x m l new is = is
link_takes (data_in.Saved upto) x m l new is = is

-- the whole step

-- the frames on a connection
abbrev pub put_on : Site → ℕ → ℕ → List DownOut → List DownFrame
put_on z a n fs = map down_of (filter (is_out_on z a n) fs)

pub record SiteAfter (x z y : Site) (fs : List DownOut) : Type 0 where
  pub past : y.past ≡ x.past
  pub links : (m : ℕ) → link_of y m ≡ link_of z m
  pub each : (a n : ℕ) → HeardTo x.past (put_on z a n fs) ((z.end_at a).connection_at n) ((y.end_at a).connection_at n)
  pub states : (a : ℕ) → (y.end_at a).state ≡ (x.end_at a).state

pub site_after : (old : DataState) (now : ℕ) (input : DataIn) (outs : DataOuts) (new : DataState) (x : Site)
    → SiteAfter x (server_takes input x) (server_site old now input outs new x) outs.frames
site_after old now input outs new x = record {
  past = past_left outs.cuts heard ∙ takes_past input x;
  links = λ m. link_left outs.cuts heard m;
  each = λ a n.
      subst (λ (k : ℕ). HeardTo k (put_on z a n outs.frames) ((z.end_at a).connection_at n) (((leaves_conns outs.cuts heard).end_at a).connection_at n)) (takes_past input x)
      (heard_left z.past (put_on z a n outs.frames) ((z.end_at a).connection_at n) ((heard.end_at a).connection_at n) (((leaves_conns outs.cuts heard).end_at a).connection_at n)
      (go a n ((z.end_at a).connection_at n)) (left_all outs.cuts heard a n));
  states = λ a. state_left outs.cuts heard a ∙ takes_state input x a;
}
  where
    z : Site
    z = server_takes input x

    heard : Site
    heard = hears_downs outs.frames (with_node now new (server_takes input x))

    go : (a n : ℕ) (o : Option Connection) → HeardTo z.past (put_on z a n outs.frames) o (option_map (λ (c : Connection). with_downs z.past (put_on z a n outs.frames) c) o)
    go a n None = tt
    go a n (Some c) = with_downs_heard z.past (put_on z a n outs.frames) c
