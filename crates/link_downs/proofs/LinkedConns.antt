-- What a step of a data server puts on a connection of which it took the first frame.
use Rattle.std.proofs.Common.{◌≡◌, ◌≢◌, ◌⊎◌, inl, inr, ℕ, Bool, true, false, cond, List, [], ◌∷◌, filter, map, Option, Some, None, refl, sym, ◌∙◌, ap, subst, ◌==◌}
use Rattle.std.specs.Prelude.{IsSomeAnd, ◌||◌}
use Rattle.std.specs.List.{AllByRecursion, list_any}
use Rattle.std.proofs.lemmas.Bool.{eq-eqb, eqb-true, false≢true, ne_eqb}
use Rattle.plain_runs.specs.Plain.{Server}
use Rattle.ecp_messages.specs.declared.down.DownFrame.{DownFrame}
use Rattle.data_rules.specs.declared.data_in.DataIn.{DataIn}
use Rattle.data_rules.specs.declared.data_in.DataIn.TheVariants as data_in
use Rattle.data_rules.specs.declared.down_frames.DownOut.{DownOut}
use Rattle.data_rules.specs.declared.rows.Caller.{Caller}
use Rattle.data_rules.specs.declared.rows.Role.TheVariants.{Waiting}
use Rattle.data_rules.specs.DataState.{DataState}
use Rattle.data_rules.specs.Conns.{role_of}
use Rattle.cluster_runs.specs.CoresState.{Linked}
use Rattle.cluster_runs.specs.Connections.{down_of, is_link, is_out_on, link_of}
use Rattle.cluster_runs.specs.Goes.{server_takes}
use Rattle.cluster_runs.specs.Machine.{Site}
use Rattle.cluster_runs.specs.Sent.{Connection, FirstTaken}
use Rattle.cluster_invariant.specs.Dials.{DialsAre, IsLinkedBy, LinkedTo}
use Rattle.cluster_invariant.specs.Ends.{CallerIs, CallersAre, HelloAlone, is_caller_on}
use Rattle.cluster_invariant.proofs.Small.{of_some}
use Rattle.ecp_messages.specs.declared.up.UpFrame.{UpFrame}
use Rattle.data_ends_kept.proofs.HellosTaken.{FirstFrames, link_after, not_first}
use Rattle.data_puts.proofs.RecoverLearnt.{FirstCame}
use Rattle.dials_server.proofs.LinkWords.{is_link_itself, is_link_true}
use Rattle.link_kept.proofs.WindowsGo.{same_or}
use Rattle.link_nodes.proofs.SiteAfter.{link_takes}
use Rattle.link_downs.proofs.OnConn.{is_on, put_on}
use Rattle.link_downs.proofs.SiteConns.{frames_for}

-- which connection a data connection is linked to

some_linked : (i j : Linked) → Some i ≡ Some j → i ≡ j
some_linked i j same = cc

-- what is said of a linked connection is said of the one that it is linked to
pub linked_at : (x : Site) (q app a n : ℕ) (P : Connection → Type 0) (c : Connection) → LinkedTo x q app P → link_of x q ≡ Some (record { app = a; dial = n })
    → (x.end_at a).connection_at n ≡ Some c → (c.first ≡ Some (record { order = x.past; conn = q })) × P c
linked_at x q app a n P c k link it = (of_it (λ z. z.first ≡ Some (record { order = x.past; conn = q })) k.first, of_it P k.its)
  where
    same : ◌≡◌ {A = Linked} (record { app = app; dial = k.dial }) (record { app = a; dial = n })
    same = some_linked (record { app = app; dial = k.dial }) (record { app = a; dial = n }) (sym k.link ∙ link)

    of_it : (Q : Connection → Type 0) → IsSomeAnd ((x.end_at app).connection_at k.dial) Q → Q c
    of_it Q at =
        subst (λ (o : Option Connection). IsSomeAnd o Q) it
        (subst (λ (j : Linked). IsSomeAnd ((x.end_at j.app).connection_at j.dial) Q) same at)

-- frames for the connection are those on the data connection that is linked to it
pub frames_same : (z : Site) (a n q : ℕ) → ((m : ℕ) → is_link a n (link_of z m) ≡ (m == q)) → (fs : List DownOut) → frames_for z a n fs ≡ put_on q fs
frames_same z a n q each [] = refl
frames_same z a n q each (f ∷ fs) =
    ap (λ (b : Bool). map down_of (cond b (f ∷ filter (is_out_on z a n) fs) (filter (is_out_on z a n) fs))) (each f.conn)
    ∙ go (f.conn == q) (frames_same z a n q each fs)
  where
    go : (b : Bool) → frames_for z a n fs ≡ put_on q fs → map down_of (cond b (f ∷ filter (is_out_on z a n) fs) (filter (is_out_on z a n) fs)) ≡ map down_of (cond b (f ∷ filter (is_on q) fs) (filter (is_on q) fs))
    go true more = ap (λ (ds : List DownFrame). f.down ∷ ds) more
    go false more = more

-- one of which a first frame was taken is linked to that data connection alone
pub link_each : (v : Server) (x : Site) (dead : ℕ → Bool) (dials : DialsAre v x dead) (input : DataIn) → FirstFrames v x dead dials input → (a n : ℕ) (c : Connection) (f : FirstTaken)
    → (x.end_at a).connection_at n ≡ Some c → c.first ≡ Some f → link_of x f.conn ≡ Some (record { app = a; dial = n }) → (input ≡ data_in.Connected f.conn → ⊥)
    → (m : ℕ) → is_link a n (link_of (server_takes input x) m) ≡ (m == f.conn)
link_each v x dead dials input first a n c f it at link fresh m = go (same_or m f.conn)
  where
    one : (e d : Connection) → Some e ≡ Some d → e ≡ d
    one e d same = cc

    its : link_of x m ≡ Some (record { app = a; dial = n }) → m ≡ f.conn
    its linked = by (of_some_at (of_some (IsLinkedBy x m) (link_of x m) (record { app = a; dial = n }) linked (dials.links m)))
      where
        of_some_at : IsSomeAnd ((x.end_at a).connection_at n) (λ z. IsSomeAnd z.first (λ g. g.conn ≡ m)) → IsSomeAnd c.first (λ g. g.conn ≡ m)
        of_some_at is = subst (λ (o : Option Connection). IsSomeAnd o (λ z. IsSomeAnd z.first (λ g. g.conn ≡ m))) it is

        by : IsSomeAnd c.first (λ g. g.conn ≡ m) → m ≡ f.conn
        by is = sym (subst (λ (o : Option FirstTaken). IsSomeAnd o (λ g. g.conn ≡ m)) at is)

    came : (g : UpFrame) → FirstCame x (record { app = a; dial = n }) g → ⊥
    came g k =
        (let none : ◌≡◌ {A = Option FirstTaken} None (Some f)
        = sym (not_first v x dead dials (record { app = a; dial = n }) g k) ∙ ap (λ (z : Connection). z.first) (one k.on c (sym k.there ∙ it)) ∙ at in absurd cc)

    apart : m ≢ f.conn → (b : Bool) → is_link a n (link_of (server_takes input x) m) ≡ b → b ≡ false
    apart differs true is = by (link_after v x dead dials input first m (record { app = a; dial = n }) (is_link_true a n (link_of (server_takes input x) m) is))
      where
        by : (link_of x m ≡ Some (record { app = a; dial = n })) ⊎ ((g : UpFrame) × (FirstCame x (record { app = a; dial = n }) g × (input ≡ data_in.Frame m g))) → true ≡ false
        by (inl linked) = absurd (differs (its linked))
        by (inr g) = absurd (came g.0 g.1.0)
    apart differs false is = refl

    go : (m ≡ f.conn) ⊎ (m ≢ f.conn) → is_link a n (link_of (server_takes input x) m) ≡ (m == f.conn)
    go (inl same) =
        ap (λ (i : ℕ). is_link a n (link_of (server_takes input x) i)) same ∙ ap (is_link a n) (link_takes input x f.conn (record { app = a; dial = n }) fresh link)
        ∙ is_link_itself a n ∙ sym (eq-eqb m f.conn same)
    go (inr differs) = apart differs (is_link a n (link_of (server_takes input x) m)) refl ∙ sym (ne_eqb m f.conn differs)

-- one that a Hello waits on carries no session's messages
pub waiting_untold : (x : Site) (n : DataState) → CallersAre n x → (q a number : ℕ) (c : Connection) → role_of n q ≡ Some Waiting → link_of x q ≡ Some (record { app = a; dial = number })
    → (x.end_at a).connection_at number ≡ Some c → c.its ≡ None
waiting_untold x n callers q a number c role link it = go n.callers (callers.all q role) callers.each
  where
    alone : (z : Caller) → CallerIs n x z → z.conn ≡ q → c.its ≡ None
    alone z is same = (linked_at x z.conn z.app a number HelloAlone c is.linked (ap (link_of x) same ∙ link) it).1.its

    go : (zs : List Caller) → list_any (is_caller_on q) zs ≡ true → AllByRecursion (CallerIs n x) zs → c.its ≡ None
    go [] some each = absurd (false≢true some)
    go (z ∷ zs) some each = by (z.conn == q) refl some (λ more. go zs more each.1)
      where
        by : (b : Bool) → (z.conn == q) ≡ b → (b || list_any (is_caller_on q) zs) ≡ true → (list_any (is_caller_on q) zs ≡ true → c.its ≡ None) → c.its ≡ None
        by true same here more = alone z each.0 (eqb-true z.conn q same)
        by false other rest more = more rest
