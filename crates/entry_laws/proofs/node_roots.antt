pub mod RootNodes
