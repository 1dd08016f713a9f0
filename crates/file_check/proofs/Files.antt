-- What is answered of a whole file, by what its parts say.
use Rattle.std.proofs.Common.{◌≡◌, ◌≢◌, ℕ, ◌+◌, ◌*◌, ◌/◌, ◌≤◌, Bool, false, List, [], ◌++◌, length, map, replicate, slice_index_or, Result, Ok, Err, refl, sym, ap, ◌∙◌, subst, inr, arith, append_assoc}
use Rattle.std.proofs.Math.Path.{subst⁻¹}
use Rattle.std.specs.Prelude.{IsPermutation, min}
use Rattle.std.specs.List.{flat_map}
use Rattle.std.proofs.lemmas.List.{get_or-replicate, length-replicate}
use Rattle.common_spec.specs.Reading.{OrFault}
use Rattle.common_spec.specs.ReadingLaws.{IsOne, OrFault-one, Reads-one}
use Rattle.tree_spec.specs.Standing.{Sizes, Paged, IsRootNumber}
use Rattle.tree_spec.specs.Worlds.{greatest_count}
use Rattle.database_spec.specs.declared.catalog.Catalog.{Catalog}
use Rattle.database_spec.specs.declared.fault.FileFault.{FileFault}
use Rattle.database_spec.specs.ItemsLaws.{Has}
use Rattle.database_spec.specs.ListsLaws.{PairsByRecursion}
use Rattle.database_spec.specs.RightRows.{HasCatalog}
use Rattle.database_spec.specs.FileFindings.{Content, Rows, Entries, Anything, Walked, Found, Needs, freelist_found, pages_needed, tree_found, compared, AreFound}
use Rattle.database_spec.specs.FileFaults.{FirstWrong, FileHasFault}
use Rattle.database_spec.specs.FileFaultsLaws.{file_fault-one}
use Rattle.database_laws.specs.FaultlessFilesLaws.{entries-apart}
use Rattle.database_laws.specs.FindingsMadeLaws.{found-some}
use Rattle.database_laws.specs.RightFindings.{AreRight}
use Rattle.database_laws.specs.RightFindingsLaws.{right-join, wrong-front, wrong-back}
use Rattle.database_laws.specs.RightFilesLaws.{all-has, right-sound}
use Rattle.database_laws.specs.SoundFilesLaws.{sound-no_fault}
use Rattle.database_laws.specs.SubjectsLaws.{roots-are}
use Rattle.db_check.specs.declared.fault.CheckFault.{CheckFault}
use Rattle.db_check.specs.Answers.{IsRefusal}
use Rattle.db_check.specs.Passes.{IsMarked, Passes}
use Rattle.db_check.specs.PassesLaws.{refusal-then, passed-wrong}
use Rattle.file_check.specs.declared.counting.Census.{Census}
use Rattle.file_check.specs.Answers.{IsCensus, IsAnswer, ChecksFile}
use Rattle.file_check.specs.Parts.{Ends, HasApart, AreApart, TellsFile, file_found}
use Rattle.file_check.specs.Trees.{KnownTree, root_of, catalog_trees}
use Rattle.file_check.proofs.TreeWalks.{tree-walks, few-roots}

-- no page is found where no flag is set
pub marked-none : (flags : List Bool) (n : ℕ) → flags ≡ replicate n false → IsMarked flags []
marked-none flags n e k low =
    let long : length flags ≡ n = ap length e ∙ length-replicate n false in
    ap (λ (list : List Bool). slice_index_or list k false) e ∙ get_or-replicate n k false false (omega (arith, low, long))

-- a part behind others that are right
ends-join : {F : Type 0} (before front back : List Found) (result : Result Unit (CheckFault F)) → AreRight before front → Ends (before ++ front) back result → Ends before (front ++ back) result
ends-join before front back (Ok done) right ends = right-join before front back right ends
ends-join before front back (Err fault) right ends =
    refusal-then (FirstWrong (before ++ front) back) (FirstWrong before (front ++ back)) (λ other wrong. wrong-back before front back other right wrong) fault ends

-- the freelist, and then the pages that have to stand somewhere
pub passes-front : {F : Type 0} (before front back : List Found) (flags : List Bool) (fault : CheckFault F) → Passes before front flags (Err fault) → Passes before (front ++ back) flags (Err fault)
passes-front before front back flags fault wrong =
    refusal-then (FirstWrong before front) (FirstWrong before (front ++ back)) (λ other first. wrong-front before front back other first) fault wrong

pub passes-join : {F : Type 0} (before front back : List Found) (flags now : List Bool) (result : Result Unit (CheckFault F)) → Passes {F = F} before front flags (Ok tt) → Passes (before ++ front) back now result → Passes before (front ++ back) now result
passes-join before front back flags now (Ok done) first second = (right-join before front back first.0 second.0, subst (IsMarked now) (append_assoc before front back) second.1)
passes-join before front back flags now (Err fault) first second = ends-join before front back (Err fault) first.0 second

module _ (sizes : Sizes) (base : Paged) (walks : List Walked) where
  abbrev pub of_trees : List Found
  of_trees = flat_map tree_found walks

  abbrev of_pages : List Found
  of_pages = freelist_found sizes base ++ map Needs (pages_needed sizes base)

  abbrev of_indexes : List Found
  of_indexes = flat_map compared walks

  in-parts : file_found sizes base walks ≡ of_trees ++ (of_pages ++ of_indexes)
  in-parts = ap (λ (rest : List Found). of_trees ++ rest) (sym (append_assoc (freelist_found sizes base) (map Needs (pages_needed sizes base)) of_indexes))

  module _ {F : Type 0} where
    -- a tree is wrong
    pub file-trees : (fault : CheckFault F) → IsRefusal (FirstWrong [] of_trees) fault → IsRefusal (FirstWrong [] (file_found sizes base walks)) fault
    file-trees fault wrong =
        refusal-then (FirstWrong [] of_trees) (FirstWrong [] (file_found sizes base walks))
        (λ other first. subst⁻¹ (λ (found : List Found). FirstWrong [] found other) in-parts (wrong-front [] of_trees (of_pages ++ of_indexes) other first)) fault wrong

    -- or what stands behind the trees
    pub file-pages : (fault : CheckFault F) → AreRight [] of_trees → IsRefusal (FirstWrong of_trees of_pages) fault → IsRefusal (FirstWrong [] (file_found sizes base walks)) fault
    file-pages fault right wrong = passed-wrong [] of_trees of_pages of_indexes (file_found sizes base walks) fault in-parts right wrong

    -- or an index, or nothing
    pub file-indexes : (result : Result Unit (CheckFault F)) → AreRight [] of_trees → AreRight of_trees of_pages → Ends (of_trees ++ of_pages) of_indexes result → Ends [] (file_found sizes base walks) result
    file-indexes result trees pages ends =
        subst⁻¹ (λ (found : List Found). Ends [] found result) in-parts (ends-join [] of_trees (of_pages ++ of_indexes) result trees (ends-join of_trees of_pages of_indexes result pages ends))

-- page 1 is a page of a file
pub first-number : (sizes : Sizes) (base : Paged) → 480 ≤ sizes.size → sizes.size ≤ 65536 → 1 ≤ base.count → IsRootNumber sizes base 1
first-number sizes base least most some = record { first = omega arith; within = some; not_lock_byte = λ e. apart e }
  where
    apart : 1 ≢ 1073741824 / sizes.size + 1
    apart e =
        let none : 1073741824 / sizes.size ≡ 0 = omega (arith, e) in
        let nothing : sizes.size * (1073741824 / sizes.size) ≡ sizes.size * 0 = ap (λ (n : ℕ). sizes.size * n) none in
        absurd (omega (arith, nothing, none, most, least))

-- a file with a catalog
module _ (sizes : Sizes) (base : Paged) (catalog : Catalog) (has : HasCatalog sizes base catalog) (first : IsRootNumber sizes base 1) (few : base.count ≤ greatest_count) where
  census-one : IsOne (IsCensus sizes base catalog)
  census-one a b p q =
      let pages : a.pages ≡ b.pages = p.pages ∙ sym q.pages in
      let trees : a.trees ≡ b.trees = p.trees ∙ sym q.trees in
      λ i. record { pages = pages i; trees = trees i }

  answer-one : IsOne (OrFault (IsCensus sizes base catalog) (FileHasFault sizes base))
  answer-one =
      OrFault-one (IsCensus sizes base catalog) (FileHasFault sizes base) census-one (file_fault-one sizes base)
      (λ census fault is wrong. sound-no_fault sizes base catalog is.database fault is.sound wrong)

  made : (found : List Found) × AreFound sizes base catalog found
  made = found-some sizes base catalog has

  abbrev found : List Found
  found = made.0

  abbrev walks : List Walked
  walks = made.1.walks

  -- rows that are compared have rowids that differ
  all-apart : AreRight [] (flat_map tree_found walks) → AreApart walks
  all-apart right = all-has (λ (w : Walked). HasApart w.subject.content) walks (λ w h. by w h w.subject.content refl)
    where
      by : (w : Walked) → Has w walks → (content : Content) → w.subject.content ≡ content → HasApart content
      by w h Rows e = tt
      by w h (Entries index rows) e = entries-apart sizes base catalog found has made.1 right w h index rows e
      by w h Anything e = tt

  module _ (trees : List KnownTree) (permute : IsPermutation (catalog_trees catalog) trees) (order : PairsByRecursion (λ (a b : ℕ). a ≤ b) (map root_of trees)) (flags : List Bool) (marked : IsMarked flags []) where
    ends-found : {F : Type 0} (result : Result Unit (CheckFault F)) → TellsFile sizes base trees flags result → Ends [] found result
    ends-found result tells =
        subst⁻¹ (λ (list : List Found). Ends [] list result) made.1.found_are
        (tells walks (tree-walks sizes base catalog found first.within has made.1 trees permute order) marked all-apart)

    -- all is right
    pub file-sound : (F : Type 0) (census : Census) → census ≡ record { pages = base.count; trees = min (length catalog.roots) 4294967295 } → TellsFile sizes base {F = F} trees flags (Ok tt) → IsAnswer sizes base catalog (Ok census)
    file-sound F census e tells =
        let sound = right-sound sizes base catalog found first few has made.1 (ends-found {F = F} (Ok tt) tells) in
        let many : length catalog.roots ≤ base.count = subst (λ (ns : List ℕ). length ns ≤ base.count) (roots-are sizes base catalog made.1.subjects has made.1.are_subjects) (few-roots sizes base catalog found first.within has made.1) in
        let trees : census.trees ≡ length catalog.roots = ap (λ (c : Census). c.trees) e ∙ omega (arith, many, few) in
        Reads-one (OrFault (IsCensus sizes base catalog) (FileHasFault sizes base)) (Ok census) answer-one
        (record { database = sound.0; sound = sound.1; pages = ap (λ (c : Census). c.pages) e; trees = trees })

    -- a part is wrong
    pub file-wrong : {F : Type 0} (fault : CheckFault F) → TellsFile sizes base trees flags (Err fault) → ChecksFile sizes base catalog (Err fault)
    file-wrong fault tells =
        refusal-then (FirstWrong [] found) (λ (refused : FileFault). IsAnswer sizes base catalog (Err refused))
        (λ other wrong. Reads-one (OrFault (IsCensus sizes base catalog) (FileHasFault sizes base)) (Err other) answer-one (inr (catalog, has, (found, made.1, wrong))))
        fault (ends-found (Err fault) tells)
