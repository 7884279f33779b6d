-- The document of each number after a change of some or all of them.
use Rattle.std.proofs.Common.{◌≡◌, ℕ, zero, suc, ◌+◌, ◌<◌, ◌≤◌, ◌≢◌, arith, List, [], ◌∷◌, length, unwrap_or, slice_get, slice_set, refl, sym, ap, subst, ◌∙◌, add-zero, ⊎_elim}
use Rattle.std.proofs.lemmas.Bool.{cases_lt}
use Rattle.std.proofs.lemmas.List.{get_or-set_same, get_or-set_other, get_or_past}
use Rattle.std.proofs.lemmas.Option.{unwrap_or-slice_get}
use Rattle.document_rules.specs.Document.{FlatState, empty_document}
use Rattle.group_rules.specs.Group.{FlatGroup, doc_in, with_doc, each_from}

-- there is no document behind the last one
pub doc_in_past : (g : FlatGroup) (n : ℕ) → length g ≤ n → doc_in g n ≡ empty_document
doc_in_past g n past = unwrap_or-slice_get g n empty_document ∙ get_or_past g n empty_document past

-- ---- one item of a list, which is read with a default behind the end

module _ {X : Type 0} (d : X) where
  pub read_other : (xs : List X) (n k : ℕ) (x : X) → k ≢ n → unwrap_or (slice_get (slice_set xs n x) k) d ≡ unwrap_or (slice_get xs k) d
  read_other xs n k x other = unwrap_or-slice_get (slice_set xs n x) k d ∙ get_or-set_other xs n k x d other ∙ sym (unwrap_or-slice_get xs k d)

  -- two lists that have one item in common still have it when one and the same item was put into both
  pub read_same : (xs ys : List X) (n k : ℕ) (x : X) → length xs ≡ length ys → unwrap_or (slice_get xs k) d ≡ unwrap_or (slice_get ys k) d
      → unwrap_or (slice_get (slice_set xs n x) k) d ≡ unwrap_or (slice_get (slice_set ys n x) k) d
  read_same [] [] n k x long same = refl
  read_same [] (y ∷ ys) n k x long same = absurd (omega arith)
  read_same (old ∷ xs) [] n k x long same = absurd (omega arith)
  read_same (old ∷ xs) (y ∷ ys) zero zero x long same = refl
  read_same (old ∷ xs) (y ∷ ys) zero (suc k) x long same = same
  read_same (old ∷ xs) (y ∷ ys) (suc n) zero x long same = same
  read_same (old ∷ xs) (y ∷ ys) (suc n) (suc k) x long same = read_same xs ys n k x (omega arith) same

-- ---- one document

pub doc_in-with_same : (g : FlatGroup) (n : ℕ) (f : FlatState) → n < length g → doc_in (with_doc g n f) n ≡ f
doc_in-with_same g n f inside = unwrap_or-slice_get (with_doc g n f) n empty_document ∙ get_or-set_same g n f empty_document inside

pub doc_in-with_other : (g : FlatGroup) (n k : ℕ) (f : FlatState) → k ≢ n → doc_in (with_doc g n f) k ≡ doc_in g k
doc_in-with_other g n k f other = read_other empty_document g n k f other

-- a property of each document and of the new one holds for each document after the replacement
pub with_doc_kept : (P : ℕ → FlatState → Type 0) (g : FlatGroup) (n : ℕ) (f : FlatState) → ((k : ℕ) → P k (doc_in g k)) → P n f
    → (k : ℕ) → P k (doc_in (with_doc g n f) k)
with_doc_kept P [] n f h new k = h k
with_doc_kept P (old ∷ g) zero f h new zero = new
with_doc_kept P (old ∷ g) zero f h new (suc k) = h (suc k)
with_doc_kept P (old ∷ g) (suc n) f h new zero = h zero
with_doc_kept P (old ∷ g) (suc n) f h new (suc k) = with_doc_kept (λ m d. P (suc m) d) g n f (λ m. h (suc m)) new k

-- ---- each document

pub length-each_from : (n : ℕ) (change : ℕ → FlatState → FlatState) (g : FlatGroup) → length (each_from n change g) ≡ length g
length-each_from n change [] = refl
length-each_from n change (f ∷ g) = ap suc (length-each_from (suc n) change g)

each_at : (n k m : ℕ) (change : ℕ → FlatState → FlatState) (g : FlatGroup) → m ≡ n + k → k < length g
    → doc_in (each_from n change g) k ≡ change m (doc_in g k)
each_at n k m change [] at inside = absurd (omega arith)
each_at n zero m change (f ∷ g) at inside = ap (λ i. change i f) (sym (at ∙ add-zero n))
each_at n (suc k) m change (f ∷ g) at inside = each_at (suc n) k m change g (omega arith) (omega arith)

pub doc_in-each : (change : ℕ → FlatState → FlatState) (g : FlatGroup) (k : ℕ) → k < length g → doc_in (each_from 0 change g) k ≡ change k (doc_in g k)
doc_in-each change g k inside = each_at 0 k k change g (omega arith) inside

-- there is no document behind the last one after the change either
pub each_past : (change : ℕ → FlatState → FlatState) (g : FlatGroup) (k : ℕ) → length g ≤ k → doc_in (each_from 0 change g) k ≡ doc_in g k
each_past change g k past =
    let long = length-each_from 0 change g in doc_in_past (each_from 0 change g) k (omega arith) ∙ sym (doc_in_past g k past)

-- a document that the change leaves
pub doc_in-each_left : (change : ℕ → FlatState → FlatState) (g : FlatGroup) (k : ℕ) → change k (doc_in g k) ≡ doc_in g k
    → doc_in (each_from 0 change g) k ≡ doc_in g k
doc_in-each_left change g k left = ⊎_elim (λ inside. doc_in-each change g k inside ∙ left) (λ past. each_past change g k past) (cases_lt k (length g))

-- a property of each document that the change keeps
pub each_kept : (P : ℕ → FlatState → Type 0) (change : ℕ → FlatState → FlatState) (g : FlatGroup) → ((k : ℕ) → P k (doc_in g k))
    → ((k : ℕ) → P k (doc_in g k) → P k (change k (doc_in g k))) → (k : ℕ) → P k (doc_in (each_from 0 change g) k)
each_kept P change g h kept k =
    ⊎_elim (λ inside. subst (P k) (sym (doc_in-each change g k inside)) (kept k (h k))) (λ past. subst (P k) (sym (each_past change g k past)) (h k))
    (cases_lt k (length g))

-- two groups that have one document in common still have it where two changes make the same of it
pub each_same : (change other : ℕ → FlatState → FlatState) (g h : FlatGroup) (k : ℕ) → length g ≡ length h → doc_in g k ≡ doc_in h k
    → change k (doc_in g k) ≡ other k (doc_in g k) → doc_in (each_from 0 change g) k ≡ doc_in (each_from 0 other h) k
each_same change other g h k long same alike =
    ⊎_elim
    (λ inside. doc_in-each change g k inside ∙ alike ∙ ap (other k) same ∙ sym (doc_in-each other h k (omega arith)))
    (λ past. each_past change g k past ∙ same ∙ sym (each_past other h k (omega arith)))
    (cases_lt k (length g))
