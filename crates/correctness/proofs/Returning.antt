-- A callee and what it leaves: the caller's registers but one, and a heap that has grown. Assumes nothing.
use Rattle.std.proofs.Common.{◌≡◌, ℕ, ◌+◌, ◌≤◌, true, ◌≢◌, List, [], ◌∷◌, length, ◌∙◌, arith}
use Rattle.std.specs.List.{AllByRecursion}
use Rattle.store.specs.Val.{Val}
use Rattle.store.specs.Tables.{Table}
use Rattle.machine.specs.Limits.{Limits}
use Rattle.machine.specs.State.{Registers, read, write, Frame}
use Rattle.machine.proofs.Judge.{Has, Hold, none, more}
use Rattle.rube.specs.Classes.{Classes}
use Rattle.rube.specs.Heap.{Heap, fits}
use Rattle.rube.specs.Evaluation.{State}
use Rattle.correctness.proofs.Relation.{shift, Fine, integer, text, object, Sound, Self, self, Grows}
use Rattle.correctness.proofs.Registers.{has-written, keep-write, stand-write, slot-below}
use Rattle.correctness.proofs.Judged.{Pre, Post}

-- only the register d may have changed
pub record Except (d : ℕ) (R R' : Registers) : Type 0 where
  pub same : (i : ℕ) → i ≢ d → read R' i ≡ read R i

pub has-except : {d i : ℕ} {R R' : Registers} {v : Val} → i ≢ d → Except d R R' → Has R i v → Has R' i v
has-except {i = i} n x h = record { is = x.same i n ∙ h.is }

pub hold-except : {d : ℕ} {R R' : Registers} {i : ℕ} {vs : List Val} → i + length vs ≤ d → Except d R R' → Hold R i vs → Hold R' i vs
hold-except l x none = none
hold-except l x (more h t) = more (has-except (λ e. omega arith) x h) (hold-except (omega arith) x t)

module _ {A : Type 0} (P : Classes A) (L : Limits) where
  pub except-pre : {ns : List (List ℕ)} {me : Val} {d t : ℕ} {S : List Frame} {R₀ : Registers} {H₀ : Heap} {R R' : Registers} {s : State} (a : ℕ) → t ≤ a → Except a R R' → Pre P L ns me d t S R₀ H₀ R s → Pre P L ns me d t S R₀ H₀ R' s
  except-pre {ns} a l x h =
      let b = h.room in
      record {
        room = h.room;
        frames = h.frames;
        stand = record {
          me-in = has-except (λ e. omega arith) x h.stand.me-in;
          names_in = λ y m. let u = slot-below ns y m in has-except (λ e. omega arith) x (h.stand.names_in y m);
        };
        keep = record { kept = λ i c u. x.same i (λ e. omega arith) ∙ h.keep.kept i c u };
        proper = h.proper;
        grows = h.grows;
      }

  pub fine-grows : {H H' : Heap} {v : Val} → Grows P H H' → Fine P H v → Fine P H' v
  fine-grows g integer = integer
  fine-grows g text = text
  fine-grows g (object {l = l} {C = C} {fs = fs} e k) = object (g.objects l C fs e).1 k

  pub self-grows : {H H' : Heap} {v : Val} → Grows P H H' → Self P H v → Self P H' v
  self-grows g (self {l = l} {C = C} {fs = fs} e m k) = self (g.objects l C fs e).1 m k

  pub grows_then : {H H' H'' : Heap} → Grows P H H' → Grows P H' H'' → Grows P H H''
  grows_then g g' = record { objects = λ l C fs e. let x = g.objects l C fs e in g'.objects l C x.0 x.1 }

  pub grows_same : {H : Heap} → Grows P H H
  grows_same = record { objects = λ l C fs e. (fs, e) }

  pub all-grows : {H H' : Heap} (t : Table) → Grows P H H' → AllByRecursion (λ p. Fine P H p.1) t → AllByRecursion (λ p. Fine P H' p.1) t
  all-grows [] g a = tt
  all-grows (p ∷ t) g a = (fine-grows g a.0, all-grows t g a.1)

  -- a callee has answered into register t of the caller, whose registers were R
  pub record Back (R : Registers) (t : ℕ) (s : State) (v : Val) (s' : State) (R' : Registers) : Type 0 where
    pub is : R' ≡ write R t (shift P v)
    pub fine : Fine P s'.heap v
    pub heap-fine : Sound P s'.heap
    pub grows : Grows P s.heap s'.heap
    pub space : fits (record { classes = P; limits = L }) s'.heap 0 0 ≡ true
    pub locals : s'.locals ≡ s.locals

  -- the caller goes on with the answer
  pub back-post : {ns : List (List ℕ)} {me v : Val} {d t : ℕ} {S : List Frame} {R₀ : Registers} {H₀ : Heap} {R R' : Registers} {s s' : State} → Pre P L ns me d t S R₀ H₀ R s → Back R t s v s' R' → Post P L ns me t R₀ H₀ v s' R'
  back-post {ns} {me} {v} {t = t} {R = R} {s = s} {s' = s'} h b =
      record {
        got = rw b.is (has-written R t (shift P v));
        stand = rw (b.is, b.locals) (stand-write R t (shift P v) h.room h.stand);
        keep = rw b.is (keep-write R t (shift P v) (omega arith) h.keep);
        proper = record {
          heap-fine = b.heap-fine;
          me-fine = self-grows b.grows h.proper.me-fine;
          locals-fine = rw b.locals (all-grows s.locals b.grows h.proper.locals-fine);
          space = b.space;
        };
        fine = b.fine;
        grows = grows_then h.grows b.grows;
      }
