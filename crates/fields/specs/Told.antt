-- Fields that their bytes tell: a high word that its type lacks has no bytes, so one that is not 0 is told by none.
use Rattle.std.specs.Prelude.{◌≡◌, ◌≢◌, List, [], ◌∷◌, ◌++◌, ℕ}
use Rattle.fields.specs.declared.Field.{Field}
use Rattle.fields.specs.declared.Field.TheVariants.{Byte, Word, Dword, Lacking}
use Rattle.fields.specs.Layout.{field_refusal}

abbrev pub FieldTold : Field → Type 0
FieldTold (Byte rule v) = Unit
FieldTold (Word rule v) = Unit
FieldTold (Dword v) = Unit
FieldTold (Lacking v) = v ≡ 0

-- up to the first field that is refused
abbrev pub LayoutTold : List Field → Type 0
LayoutTold [] = Unit
LayoutTold (f ∷ fs) = FieldTold f × (field_refusal f ≡ 0 → LayoutTold fs)

-- none of these is refused
abbrev pub AllGood : List Field → Type 0
AllGood [] = Unit
AllGood (f ∷ fs) = (field_refusal f ≡ 0) × AllGood fs

-- the first field that is refused is a high word that its type lacks
pub record LackingFirst (fs : List Field) : Type 0 where
  pub before : List Field
  pub high : ℕ
  pub behind : List Field
  pub split : fs ≡ before ++ (Lacking high ∷ behind)
  pub good : AllGood before
  pub some : high ≢ 0
