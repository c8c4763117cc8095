-- A row of elements in memory is its first p and the others, side by side, and back, for any type of element. Assumes `Logic`.
use Prim.Native.Nat.{ℕ, zero, suc, ◌+◌}
use mathlib.Core.List.{List, [], ◌∷◌}
use lib.ListN.{take, drop as leave}
use seplogic.Ra.Ura.{Ura}
use base.Logic.{ent, sep}
use base.Fml.{Share}
use types.Logic.{Logic, sem}
use types.Kit.{‵, ◌⊛◌, ◌$◌, ◌∵◌, !, qed, move, drop, use1, use2, split, fsplit, fjoin, done}
use denote.RattleType.{RattleType}
use denote.Memory.{mem}
use denote.Index.{row, place}
use denote.Steps.{nothing}

module _ {M : Type 1} {𝓤 : Ura M} (𝓛 : Logic 𝓤) (R : RattleType) (q : Share) (b : ℕ) where
  pub cut_at : (xs : List R.Denot) (p o : ℕ) → ent 𝓤 (sem 𝓛 (row R q xs b o)) (sep 𝓤 (sem 𝓛 (row R q (take p xs) b o)) (sem 𝓛 (row R q (leave p xs) b (place (mem R).size o p))))
  cut_at xs zero o = qed 𝓛 (‵ (row R q xs b o) ∷ []) ∵ nothing ! $ done !
  cut_at [] (suc p) o = qed 𝓛 (‵ (row R q [] b o) ∷ []) ∵ nothing ! $ done !
  cut_at (x ∷ xs) (suc p) o =
      qed 𝓛 (‵ (row R q (x ∷ xs) b o) ∷ []) ∵ fsplit ! $ move ! (1 ∷ []) $
      use1 𝓛 (‵ (row R q (take p xs) b (o + (mem R).size)) ⊛ ‵ (row R q (leave p xs) b (place (mem R).size (o + (mem R).size) p))) (cut_at xs p (o + (mem R).size)) $ split ! $
      move ! (2 ∷ 0 ∷ []) $ fjoin ! $ done !

  pub join_at : (xs : List R.Denot) (p o : ℕ) → ent 𝓤 (sep 𝓤 (sem 𝓛 (row R q (take p xs) b o)) (sem 𝓛 (row R q (leave p xs) b (place (mem R).size o p)))) (sem 𝓛 (row R q xs b o))
  join_at xs zero o = qed 𝓛 (‵ (row R q [] b o) ∷ ‵ (row R q xs b o) ∷ []) ∵ drop ! $ done !
  join_at [] (suc p) o = qed 𝓛 (‵ (row R q [] b o) ∷ ‵ (row R q [] b (place (mem R).size o (suc p))) ∷ []) ∵ drop ! $ done !
  join_at (x ∷ xs) (suc p) o =
      qed 𝓛 (‵ (row R q (x ∷ take p xs) b o) ∷ ‵ (row R q (leave p xs) b (place (mem R).size (o + (mem R).size) p)) ∷ []) ∵ fsplit ! $ move ! (1 ∷ 2 ∷ []) $
      use2 𝓛 (‵ (row R q xs b (o + (mem R).size))) (join_at xs p (o + (mem R).size)) $ move ! (1 ∷ 0 ∷ []) $ fjoin ! $ done !
