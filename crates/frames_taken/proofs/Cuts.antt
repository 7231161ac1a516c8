-- A frame that is taken cuts no connection.
use Rattle.std.proofs.Common.{◌≡◌, ℕ, Bool, true, false, List, [], ◌∷◌, refl, ◌∙◌, ap}
use Rattle.ecp_messages.specs.declared.down.Down.{Down}
use Rattle.ecp_messages.specs.declared.down.Down.TheVariants.{Welcome, Reset, Block, Drop, Ack, Grant, Answer, Normal, Bare}
use Rattle.ecp_messages.specs.declared.up.Up.{Up}
use Rattle.end_words.specs.Windows.{owes_bare}
use Rattle.app_rules.specs.Delivering.{to_put_again}
use Rattle.app_rules.specs.Downs.{Delivers, bares_if, bares_joined, joined, settled}
use Rattle.app_rules.specs.Welcoming.{sends_again, settles_unless}
use Rattle.app_rules.specs.Works.{Sofar, end_at, is_joined, puts, puts_all, session_at, tells, tells_if}

tells_cuts : (t : Bool) (d seq : ℕ) (m : Up) (b : Sofar) → (tells_if t d seq m b).outs.cuts ≡ b.outs.cuts
tells_cuts true d seq m b = refl
tells_cuts false d seq m b = refl

puts_cuts : (d : ℕ) (m : Up) (b : Sofar) → (puts d m b).outs.cuts ≡ b.outs.cuts
puts_cuts d m b = tells_cuts (is_joined (end_at b.state d).line) d _ m _

pub all_cuts : (d : ℕ) (ms : List Up) (b : Sofar) → (puts_all d ms b).outs.cuts ≡ b.outs.cuts
all_cuts d [] b = refl
all_cuts d (m ∷ ms) b = all_cuts d ms (puts d m b) ∙ puts_cuts d m b

pub again_cuts : (d : ℕ) (ms : List (ℕ × Up)) (b : Sofar) → (sends_again d ms b).outs.cuts ≡ b.outs.cuts
again_cuts d [] b = refl
again_cuts d (m ∷ ms) b = again_cuts d ms (tells d m.0 m.1 b)

pub unless_cuts : (due : Bool) (d now : ℕ) (b : Sofar) → (settles_unless due d now b).outs.cuts ≡ b.outs.cuts
unless_cuts true d now b = refl
unless_cuts false d now b = refl

pub delivers_cuts : (m : Down) (d now : ℕ) (b c : Sofar) → Delivers m d now b c → c.outs.cuts ≡ b.outs.cuts
delivers_cuts (Welcome session epoch kept front taken) d now b c is = absurd is
delivers_cuts (Reset session at) d now b c is = absurd is
delivers_cuts (Block front block) d now b c is = ap (λ (x : Sofar). x.outs.cuts) is.after
delivers_cuts (Drop front lo hi) d now b c is = ap (λ (x : Sofar). x.outs.cuts) is
delivers_cuts (Ack front) d now b c is = ap (λ (x : Sofar). x.outs.cuts) is
delivers_cuts (Grant front ticket at) d now b c is = ap (λ (x : Sofar). x.outs.cuts) is
delivers_cuts (Answer front about job number at sum) d now b c is = ap (λ (x : Sofar). x.outs.cuts) is
delivers_cuts (Normal front) d now b c is = ap (λ (x : Sofar). x.outs.cuts) is ∙ all_cuts d (to_put_again (session_at b.state d)) _
delivers_cuts Bare d now b c is = absurd is

bares_cuts : (t : Bool) (d : ℕ) (b : Sofar) → (bares_if t d b).outs.cuts ≡ b.outs.cuts
bares_cuts true d b = refl
bares_cuts false d b = refl

joined_cuts : (t : Bool) (d : ℕ) (b : Sofar) → (bares_joined t d b).outs.cuts ≡ b.outs.cuts
joined_cuts true d b = bares_cuts (owes_bare (session_at b.state d).window) d b
joined_cuts false d b = refl

pub settled_cuts : (d : ℕ) (b : Sofar) → (settled d b).outs.cuts ≡ b.outs.cuts
settled_cuts d b = joined_cuts (joined b d) d b
