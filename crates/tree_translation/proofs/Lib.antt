mod AbsurdRows
pub mod Anywhere
mod BelowRows
mod BinderRows
pub mod Comparing
pub mod CongruenceInstances
pub mod ContextInstances
pub mod Drafting
pub mod EntryNames
pub mod EntryTerms
pub mod EquationInstances
mod EquationRows
pub mod FirstMentions
mod FlatRows
mod FunctionalRows
pub mod GeneratedNames
mod GroupRows
mod GrowingRows
mod HelperLevelRows
mod HelperRows
mod HiddenGroupRows
mod IndexedRows
mod InnerCallRows
pub mod LevelLists
mod MappingRows
pub mod MovedInstances
pub mod MovedPlaces
pub mod Needs
mod NestedHelperRows
pub mod NewNames
pub mod NothingHidden
pub mod OrderTypes
mod ParameterRows
mod PlaceRows
pub mod RecordInstances
mod RecursionRows
mod ReorderedRows
pub mod ReplayedBinders
pub mod ReplayedEnds
pub mod ReplayedRuns
mod Samples
pub mod SeenContexts
pub mod SeenDependants
pub mod SeenEquations
pub mod SeenOccurrences
pub mod SeenOrders
pub mod SeenSolutions
pub mod SeenSquares
pub mod SeenSteps
pub mod SeenTerms
mod SplitRows
pub mod TelescopeInstances
mod VectorRows
pub mod WrittenType
mod ZipRows
