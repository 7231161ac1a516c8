-- A fault of one cause, where the causes exclude each other.
use Rattle.std.proofs.Common.{◌≡◌, ◌⊎◌, sym, ◌∙◌, inl, inr}
use Rattle.job_script.specs.declared.line_fault.LineFault.{LineFault}
use Rattle.job_script.specs.Refusals.{IsMemoryFault}

-- two faults are one, but for out of memory
abbrev pub AreOne : LineFault → LineFault → Type 0
AreOne fault other = IsMemoryFault fault ⊎ (IsMemoryFault other ⊎ (fault ≡ other))

-- this is the fault, and what it says holds
abbrev pub Cause : (LineFault → Type 0) → LineFault → LineFault → Type 0
Cause R a fault = R a × (fault ≡ a)

-- one of five faults, or out of memory
abbrev pub Causes : (R : LineFault → Type 0) (a b c d e fault : LineFault) → Type 0
Causes R a b c d e fault = Cause R a fault ⊎ (Cause R b fault ⊎ (Cause R c fault ⊎ (Cause R d fault ⊎ (Cause R e fault ⊎ IsMemoryFault fault))))

-- no two of five faults hold
pub record Apart (R : LineFault → Type 0) (a b c d e : LineFault) : Type 0 where
  pub ab : R a → R b → ⊥
  pub ac : R a → R c → ⊥
  pub ad : R a → R d → ⊥
  pub ae : R a → R e → ⊥
  pub bc : R b → R c → ⊥
  pub bd : R b → R d → ⊥
  pub be : R b → R e → ⊥
  pub cd : R c → R d → ⊥
  pub ce : R c → R e → ⊥
  pub de : R d → R e → ⊥

same : (a fault other : LineFault) → fault ≡ a → other ≡ a → AreOne fault other
same a fault other e k = inr (inr (e ∙ sym k))

-- two of them are one
pub one-cause : (R : LineFault → Type 0) (a b c d e fault other : LineFault) → Apart R a b c d e → Causes R a b c d e fault → Causes R a b c d e other → AreOne fault other
one-cause R a b c d e fault other apart (inl p) (inl q) = same a fault other p.1 q.1
one-cause R a b c d e fault other apart (inl p) (inr (inl q)) = absurd (apart.ab p.0 q.0)
one-cause R a b c d e fault other apart (inl p) (inr (inr (inl q))) = absurd (apart.ac p.0 q.0)
one-cause R a b c d e fault other apart (inl p) (inr (inr (inr (inl q)))) = absurd (apart.ad p.0 q.0)
one-cause R a b c d e fault other apart (inl p) (inr (inr (inr (inr (inl q))))) = absurd (apart.ae p.0 q.0)
one-cause R a b c d e fault other apart (inl p) (inr (inr (inr (inr (inr q))))) = inr (inl q)
one-cause R a b c d e fault other apart (inr (inl p)) (inl q) = absurd (apart.ab q.0 p.0)
one-cause R a b c d e fault other apart (inr (inl p)) (inr (inl q)) = same b fault other p.1 q.1
one-cause R a b c d e fault other apart (inr (inl p)) (inr (inr (inl q))) = absurd (apart.bc p.0 q.0)
one-cause R a b c d e fault other apart (inr (inl p)) (inr (inr (inr (inl q)))) = absurd (apart.bd p.0 q.0)
one-cause R a b c d e fault other apart (inr (inl p)) (inr (inr (inr (inr (inl q))))) = absurd (apart.be p.0 q.0)
one-cause R a b c d e fault other apart (inr (inl p)) (inr (inr (inr (inr (inr q))))) = inr (inl q)
one-cause R a b c d e fault other apart (inr (inr (inl p))) (inl q) = absurd (apart.ac q.0 p.0)
one-cause R a b c d e fault other apart (inr (inr (inl p))) (inr (inl q)) = absurd (apart.bc q.0 p.0)
one-cause R a b c d e fault other apart (inr (inr (inl p))) (inr (inr (inl q))) = same c fault other p.1 q.1
one-cause R a b c d e fault other apart (inr (inr (inl p))) (inr (inr (inr (inl q)))) = absurd (apart.cd p.0 q.0)
one-cause R a b c d e fault other apart (inr (inr (inl p))) (inr (inr (inr (inr (inl q))))) = absurd (apart.ce p.0 q.0)
one-cause R a b c d e fault other apart (inr (inr (inl p))) (inr (inr (inr (inr (inr q))))) = inr (inl q)
one-cause R a b c d e fault other apart (inr (inr (inr (inl p)))) (inl q) = absurd (apart.ad q.0 p.0)
one-cause R a b c d e fault other apart (inr (inr (inr (inl p)))) (inr (inl q)) = absurd (apart.bd q.0 p.0)
one-cause R a b c d e fault other apart (inr (inr (inr (inl p)))) (inr (inr (inl q))) = absurd (apart.cd q.0 p.0)
one-cause R a b c d e fault other apart (inr (inr (inr (inl p)))) (inr (inr (inr (inl q)))) = same d fault other p.1 q.1
one-cause R a b c d e fault other apart (inr (inr (inr (inl p)))) (inr (inr (inr (inr (inl q))))) = absurd (apart.de p.0 q.0)
one-cause R a b c d e fault other apart (inr (inr (inr (inl p)))) (inr (inr (inr (inr (inr q))))) = inr (inl q)
one-cause R a b c d e fault other apart (inr (inr (inr (inr (inl p))))) (inl q) = absurd (apart.ae q.0 p.0)
one-cause R a b c d e fault other apart (inr (inr (inr (inr (inl p))))) (inr (inl q)) = absurd (apart.be q.0 p.0)
one-cause R a b c d e fault other apart (inr (inr (inr (inr (inl p))))) (inr (inr (inl q))) = absurd (apart.ce q.0 p.0)
one-cause R a b c d e fault other apart (inr (inr (inr (inr (inl p))))) (inr (inr (inr (inl q)))) = absurd (apart.de q.0 p.0)
one-cause R a b c d e fault other apart (inr (inr (inr (inr (inl p))))) (inr (inr (inr (inr (inl q))))) = same e fault other p.1 q.1
one-cause R a b c d e fault other apart (inr (inr (inr (inr (inl p))))) (inr (inr (inr (inr (inr q))))) = inr (inl q)
one-cause R a b c d e fault other apart (inr (inr (inr (inr (inr p))))) q = inl p

-- where none of them holds, out of memory
pub no-cause : (R : LineFault → Type 0) (a b c d e fault : LineFault) → (R a → ⊥) → (R b → ⊥) → (R c → ⊥) → (R d → ⊥) → (R e → ⊥) → Causes R a b c d e fault → IsMemoryFault fault
no-cause R a b c d e fault n m o k h (inl p) = absurd (n p.0)
no-cause R a b c d e fault n m o k h (inr (inl p)) = absurd (m p.0)
no-cause R a b c d e fault n m o k h (inr (inr (inl p))) = absurd (o p.0)
no-cause R a b c d e fault n m o k h (inr (inr (inr (inl p)))) = absurd (k p.0)
no-cause R a b c d e fault n m o k h (inr (inr (inr (inr (inl p))))) = absurd (h p.0)
no-cause R a b c d e fault n m o k h (inr (inr (inr (inr (inr p))))) = p
