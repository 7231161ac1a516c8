-- What a data server puts to sessions that learnt of its order, neither a Welcome nor a Reset: the connections go on by it.
use Rattle.std.proofs.Common.{◌≡◌, ◌≤◌, ℕ, Bool, true, false, ◌||◌, cond, List, [], ◌∷◌, ◌++◌, length, map, filter, Option, Some, None, is_some, refl, sym, ◌∙◌, ap, subst, arith}
use Rattle.std.specs.Prelude.{⊤, IfSome, IsSomeAnd, nat_lt}
use Rattle.std.specs.List.{AllByRecursion, list_any}
use Rattle.std.proofs.lemmas.Bool.{false≢true}
use Rattle.std.proofs.lemmas.List.{append-nil, append_assoc, length-append}
use Rattle.plain_runs.specs.Plain.{Server}
use Rattle.ecp_messages.specs.declared.down.Down.{Down}
use Rattle.ecp_messages.specs.declared.down.Down.TheVariants.{Welcome, Reset, Block, Drop, Ack, Grant, Answer, Normal, Bare}
use Rattle.ecp_messages.specs.declared.down.DownFrame.{DownFrame}
use Rattle.data_rules.specs.declared.down_frames.DownOut.{DownOut}
use Rattle.cluster_runs.specs.CoresState.{Linked}
use Rattle.cluster_runs.specs.Sent.{Connection, FirstTaken, Place}
use Rattle.cluster_runs.specs.Machine.{Site}
use Rattle.cluster_runs.specs.Connections.{down_of, is_out_on, link_of, welcomed, with_downs}
use Rattle.cluster_invariant.specs.Dials.{CarriesOf, ConnectionIs}
use Rattle.cluster_invariant.specs.Words.{is_reset_down, is_reset_frame}
use Rattle.dials_kept.proofs.ConnectionsGrow.{Grows}
use Rattle.dials_kept.proofs.ShortDials.{left_same}
use Rattle.dials_server.proofs.LinkWords.{is_link_true}

-- neither a Welcome nor a Reset
abbrev pub IsPlain : Down → Type 0
IsPlain (Welcome session epoch kept front taken) = ⊥
IsPlain (Reset session at) = ⊥
IsPlain (Block front block) = ⊤
IsPlain (Drop front lo hi) = ⊤
IsPlain (Ack front) = ⊤
IsPlain (Grant front ticket at) = ⊤
IsPlain (Answer front about job number at sum) = ⊤
IsPlain (Normal front) = ⊤
IsPlain Bare = ⊤

-- it says nothing of whose messages follow
plain_its : (m : Down) → IsPlain m → (k : ℕ) (its : Option Place) → welcomed k its m ≡ its
plain_its (Welcome session epoch kept front taken) plain k its = absurd plain
plain_its (Reset session at) plain k its = absurd plain
plain_its (Block front block) plain k its = refl
plain_its (Drop front lo hi) plain k its = refl
plain_its (Ack front) plain k its = refl
plain_its (Grant front ticket at) plain k its = refl
plain_its (Answer front about job number at sum) plain k its = refl
plain_its (Normal front) plain k its = refl
plain_its Bare plain k its = refl

plain_reset : (m : Down) → IsPlain m → is_reset_down m ≡ false
plain_reset (Welcome session epoch kept front taken) plain = absurd plain
plain_reset (Reset session at) plain = absurd plain
plain_reset (Block front block) plain = refl
plain_reset (Drop front lo hi) plain = refl
plain_reset (Ack front) plain = refl
plain_reset (Grant front ticket at) plain = refl
plain_reset (Answer front about job number at sum) plain = refl
plain_reset (Normal front) plain = refl
plain_reset Bare plain = refl

-- What frames leave of a connection.
pub record Hears (c d : Connection) (fs : List DownFrame) : Type 0 where
  pub ups : d.ups ≡ c.ups
  pub ups_taken : d.ups_taken ≡ c.ups_taken
  pub downs : d.downs ≡ c.downs ++ fs
  pub downs_taken : d.downs_taken ≡ c.downs_taken
  pub linked : d.linked ≡ c.linked
  pub app_left : d.app_left ≡ c.app_left
  pub data_left : d.data_left ≡ c.data_left
  pub knew : d.knew ≡ c.knew
  pub first : d.first ≡ c.first

pub heard : (k : ℕ) (fs : List DownFrame) (c : Connection) → Hears c (with_downs k fs c) fs
heard k [] c = record {
  ups = refl;
  ups_taken = refl;
  downs = sym (append-nil c.downs);
  downs_taken = refl;
  linked = refl;
  app_left = refl;
  data_left = refl;
  knew = refl;
  first = refl;
}
heard k (f ∷ fs) c = go (heard k fs (record c { downs = c.downs ++ f ∷ []; its = welcomed k c.its f.message }))
  where
    go : Hears (record c { downs = c.downs ++ f ∷ []; its = welcomed k c.its f.message }) (with_downs k (f ∷ fs) c) fs → Hears c (with_downs k (f ∷ fs) c) (f ∷ fs)
    go h = record {
      ups = h.ups;
      ups_taken = h.ups_taken;
      downs = h.downs ∙ append_assoc c.downs (f ∷ []) fs;
      downs_taken = h.downs_taken;
      linked = h.linked;
      app_left = h.app_left;
      data_left = h.data_left;
      knew = h.knew;
      first = h.first;
    }

-- plain ones say nothing of whose messages follow
heard_its : (k : ℕ) (fs : List DownFrame) (c : Connection) → AllByRecursion (λ f. IsPlain f.message) fs → (with_downs k fs c).its ≡ c.its
heard_its k [] c plain = refl
heard_its k (f ∷ fs) c plain =
    heard_its k fs (record c { downs = c.downs ++ f ∷ []; its = welcomed k c.its f.message }) plain.1 ∙ plain_its f.message plain.0 k c.its

none_resets : (fs : List DownFrame) → AllByRecursion (λ f. IsPlain f.message) fs → list_any is_reset_frame fs ≡ false
none_resets [] plain = refl
none_resets (f ∷ fs) plain = ap (λ (b : Bool). b || list_any is_reset_frame fs) (plain_reset f.message plain.0) ∙ none_resets fs plain.1

-- The connection that a data connection is linked to carries a session's messages.
abbrev pub TellsOn : Site → ℕ → Type 0
TellsOn x conn = IsSomeAnd (link_of x conn) (λ l. IsSomeAnd ((x.end_at l.app).connection_at l.dial) (λ c. is_some c.its ≡ true))

-- a frame that is put plainly on such a one
pub record PlainOn (x : Site) (f : DownOut) : Type 0 where
  pub plain : IsPlain f.down.message
  pub tells : TellsOn x f.conn

-- those on a connection
on_plain : (x : Site) (a m : ℕ) (fs : List DownOut) → AllByRecursion (PlainOn x) fs → AllByRecursion (λ f. IsPlain f.message) (map down_of (filter (is_out_on x a m) fs))
on_plain x a m [] plain = tt
on_plain x a m (f ∷ fs) plain = go (is_out_on x a m f) (on_plain x a m fs plain.1)
  where
    go : (b : Bool) → AllByRecursion (λ g. IsPlain g.message) (map down_of (filter (is_out_on x a m) fs))
        → AllByRecursion (λ g. IsPlain g.message) (map down_of (cond b (f ∷ filter (is_out_on x a m) fs) (filter (is_out_on x a m) fs)))
    go true more = (plain.0.plain, more)
    go false more = more

-- one that carries nothing hears nothing
none_on : (x : Site) (a m : ℕ) (c : Connection) (fs : List DownOut) → (x.end_at a).connection_at m ≡ Some c → AllByRecursion (PlainOn x) fs → c.its ≡ None
    → map down_of (filter (is_out_on x a m) fs) ≡ []
none_on x a m c [] it plain none = refl
none_on x a m c (f ∷ fs) it plain none = go (is_out_on x a m f) refl (none_on x a m c fs it plain.1 none)
  where
    carries : is_out_on x a m f ≡ true → ⊥
    carries on =
        false≢true
        (sym (ap is_some none)
        ∙ subst (λ (o : Option Connection). IsSomeAnd o (λ z. is_some z.its ≡ true)) it
        (subst (λ (o : Option Linked). IsSomeAnd o (λ l. IsSomeAnd ((x.end_at l.app).connection_at l.dial) (λ z. is_some z.its ≡ true)))
        (is_link_true a m (link_of x f.conn) on) plain.0.tells))

    go : (b : Bool) → is_out_on x a m f ≡ b → map down_of (filter (is_out_on x a m) fs) ≡ []
        → map down_of (cond b (f ∷ filter (is_out_on x a m) fs) (filter (is_out_on x a m) fs)) ≡ []
    go true on more = absurd (carries on)
    go false off more = more

-- one of which nothing was taken carries nothing
untaken_its : (v : Server) (x : Site) (a m : ℕ) (c : Connection) → ConnectionIs v x a m c → c.ups_taken ≡ 0 → c.its ≡ None
untaken_its v x a m c is none = by c.its refl is.its
  where
    unlinked : is_some c.first ≡ false
    unlinked = is.taken ∙ is.linked ∙ ap (λ (n : ℕ). nat_lt 0 n) none

    no_first : (o : Option FirstTaken) → is_some o ≡ false → (k : ℕ) → IsSomeAnd o (λ f. f.order ≡ k) → ⊥
    no_first None unmade k at = at
    no_first (Some f) unmade k at = absurd (false≢true (sym unmade))

    by : (o : Option Place) → c.its ≡ o → IfSome o (CarriesOf v a c.first) → c.its ≡ None
    by None same at = same
    by (Some p) same at = absurd (no_first c.first unlinked p.order at.order)

-- A connection goes on by what is put plainly.
pub heard_grows : (v : Server) (x y : Site) (a m : ℕ) (c : Connection) (fs : List DownOut) → (x.end_at a).connection_at m ≡ Some c → ConnectionIs v x a m c
    → y.connection_at ≡ x.connection_at → AllByRecursion (PlainOn x) fs → Grows x y c (with_downs x.past (map down_of (filter (is_out_on x a m) fs)) c)
heard_grows v x y a m c fs it is same plain = record {
  more = [];
  ups = h.ups ∙ sym (append-nil c.ups);
  follow = refl;
  alone = λ none. refl;
  untaken = λ none. sym h.ups_taken ∙ none;
  within_ups = λ low. subst (λ (n : ℕ). n ≤ length c.ups) (sym h.ups_taken) low;
  counted = ap (λ (n : ℕ). nat_lt 0 n) h.ups_taken;
  heard = gs;
  downs = h.downs;
  within = λ low. omega (arith, low, h.downs_taken, ap (λ (xs : List DownFrame). length xs) h.downs, length-append c.downs gs);
  unheard = λ none. none_on x a m c fs it plain (untaken_its v x a m c is none);
  quiet = none_on x a m c fs it plain;
  unreset = none_resets gs (on_plain x a m fs plain);
  linked = h.linked;
  its = heard_its x.past gs c (on_plain x a m fs plain);
  knew = h.knew;
  first = h.first;
  data_left = λ taken was. h.data_left ∙ was ∙ sym (left_same x y same c.first);
}
  where
    gs : List DownFrame
    gs = map down_of (filter (is_out_on x a m) fs)

    h : Hears c (with_downs x.past gs c) gs
    h = heard x.past gs c
